-- The picture of a scene's wiring at a frame, line by line, in the DOT language of Graphviz.
use Rattle.std.specs.Prelude.{ℕ, Bool, not, ◌&&◌, nat_lt, if◌then◌else◌, List, [], ◌++◌, length, codes, Option, None, Some, slice_get}
use Rattle.std.specs.Fmt.{decimal}
use Rattle.std.specs.List.{flat_map, range_with_len}
use Rattle.std.specs.Option.{option_map_or}
use Rattle.scene_model.specs.declared.bus.Bus.{Bus}
use Rattle.scene_model.specs.declared.node.Node.{Node}
use Rattle.scene_model.specs.declared.node.NodeKind.{NodeKind}
use Rattle.scene_model.specs.declared.node.NodeKind.TheVariants.{Sound, Group, Splitter}
use Rattle.scene_model.specs.declared.node_state.NodeState.{NodeState}
use Rattle.scene_model.specs.declared.resource.Resource.{Resource}
use Rattle.scene_model.specs.Buses.{outputs}
use Rattle.scene_model.specs.PlanData.{PlanData}
use Rattle.scene_model.specs.SceneData.{SceneData}
use Rattle.scene_model.specs.Times.{plan}
use Rattle.mix_model.specs.Pulled.{node, endpoint, is_active, pulled}
use Rattle.scene_view.specs.Labels.{label, factor}

-- the name of a node, and the sound file of a resource
abbrev pub node_name : SceneData → ℕ → List ℕ
node_name s n = option_map_or (λ (row : Node). row.name) (slice_get s.nodes n) []

abbrev pub file_name : SceneData → ℕ → List ℕ
file_name s resource = option_map_or (λ (row : Resource). row.file) (slice_get s.resources resource) []

-- what a node is
unfoldable pub kind_text : SceneData → NodeKind → List ℕ
kind_text s (Sound resource looped) = codes "sound " ++ label (file_name s resource)
kind_text s Group = codes "group"
kind_text s (Splitter count) = codes "splitter with " ++ decimal count ++ codes " outputs"

-- what is said where it is so
unfoldable pub said_where : Bool → List ℕ → List ℕ
said_where so text = if so then text else []

-- what is not heard is grey
unfoldable pub shade : Bool → List ℕ
shade heard = if heard then [] else codes ", color=grey, fontcolor=grey"

-- What a node is, and whether it is looped; then when it is active, and whether it is stopped: a line of the label each.
unfoldable pub what_it_is : ℕ → List ℕ → List ℕ → List ℕ → List ℕ
what_it_is number name kind looped = codes "  n" ++ decimal number ++ codes " [label=\"" ++ name ++ codes "\\n" ++ kind ++ looped

unfoldable pub when_it_is : ℕ → ℕ → List ℕ → List ℕ → List ℕ
when_it_is from until stopped shading =
    codes "\\nfrom " ++ decimal from ++ codes " until " ++ decimal until ++ stopped ++ codes "\"" ++ shading ++ codes "];\n"

-- a node by its number, its name, its state and whether it is pulled
unfoldable pub node_line : SceneData → ℕ → List ℕ → NodeState → Bool → List ℕ
node_line s number name state heard =
    what_it_is number (label name) (kind_text s state.kind) (said_where state.looped (codes "\\nlooped"))
    ++ when_it_is state.from state.until (said_where (not state.started) (codes "\\nstopped")) (shade heard)

-- the number of an output, of a node that has several
unfoldable pub output_text : NodeKind → ℕ → List ℕ
output_text kind out = if nat_lt 1 (outputs kind) then decimal out ++ codes ": " else []

-- and the gain
abbrev pub gain_text : NodeKind → Bus → List ℕ
gain_text kind b = output_text kind b.out ++ factor b.gain

-- an arrow from a node to the target of one of its outputs, with the gain
unfoldable pub arrow : ℕ → ℕ → List ℕ → List ℕ → List ℕ
arrow from to gain shading =
    codes "  n" ++ decimal from ++ codes " -> n" ++ decimal to ++ codes " [label=\"" ++ gain ++ codes "\"" ++ shading ++ codes "];\n"

abbrev pub arrow_line : NodeKind → Bus → ℕ → Bool → List ℕ
arrow_line kind b to heard = arrow b.node to (gain_text kind b) (shade heard)

-- a bus is heard where its node is active and its target is pulled; one that is attached nowhere isn't drawn
abbrev pub target_line : PlanData → ℕ → Bus → Option ℕ → List ℕ
target_line p t b None = []
target_line p t b (Some to) = arrow_line (node p b.node).kind b to (is_active t (node p b.node) && pulled p t to)

abbrev pub bus_line : PlanData → ℕ → Bus → List ℕ
bus_line p t b = target_line p t b b.to

-- the first part of a picture, with the lines of its nodes
unfoldable pub upper_part : ℕ → List ℕ → List ℕ
upper_part t nodes = codes "digraph scene {\n  label=\"frame " ++ decimal t ++ codes "\";\n  rankdir=LR;\n  node [shape=box];\n" ++ nodes

-- and the other one, with the number of the endpoint and the lines of the buses
unfoldable pub lower_part : ℕ → List ℕ → List ℕ
lower_part endpoint buses = codes "  n" ++ decimal endpoint ++ codes " [label=\"endpoint\", shape=doublecircle];\n" ++ buses ++ codes "}\n"

-- the lines of the first nodes
unfoldable pub node_lines : SceneData → PlanData → ℕ → ℕ → List ℕ
node_lines s p t count = flat_map (λ n. node_line s n (node_name s n) (node p n) (pulled p t n)) (range_with_len 0 count)

-- the lines of buses
unfoldable pub bus_lines : PlanData → ℕ → List Bus → List ℕ
bus_lines p t buses = flat_map (bus_line p t) buses

-- the picture of a plan at a frame
abbrev pub picture : SceneData → PlanData → ℕ → List ℕ
picture s p t = upper_part t (node_lines s p t (length p.nodes)) ++ lower_part (endpoint p) (bus_lines p t p.buses)

-- the picture of a scene at a frame, after the edits of that frame
abbrev pub wiring : SceneData → ℕ → List ℕ
wiring s t = picture s (plan s t) t
