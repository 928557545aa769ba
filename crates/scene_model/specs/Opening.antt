-- The plan with which a scene begins.
use Rattle.std.specs.Prelude.{ℕ, suc, Bool, false, List, [], ◌∷◌, ◌++◌, Option, None, Some, map, fold}
use Rattle.std.specs.List.{range_with_len}
use Rattle.scene_model.specs.declared.node.Node.{Node}
use Rattle.scene_model.specs.declared.node.NodeKind.{NodeKind}
use Rattle.scene_model.specs.declared.node.NodeKind.TheVariants.{Sound, Group, Splitter}
use Rattle.scene_model.specs.declared.node_state.NodeState.{NodeState}
use Rattle.scene_model.specs.declared.bus.Bus.{Bus}
use Rattle.scene_model.specs.declared.bus_row.BusRow.{BusRow}
use Rattle.scene_model.specs.declared.edit.Edit.{Edit}
use Rattle.scene_model.specs.declared.edit.Edit.TheVariants.{Attach, SetGain}
use Rattle.scene_model.specs.Buses.{outputs}
use Rattle.scene_model.specs.Limits as limits
use Rattle.scene_model.specs.PlanData.{PlanData}
use Rattle.scene_model.specs.Plans.{after}
use Rattle.scene_model.specs.SceneData.{SceneData}

abbrev pub is_looped : NodeKind → Bool
is_looped (Sound resource looped) = looped
is_looped Group = false
is_looped (Splitter n) = false

-- a node as its row has it, with no seek made
abbrev pub state_of : Node → NodeState
state_of n = record { kind = n.kind; started = n.started; from = n.from; until = n.until; seeks = 0; place = 0; looped = is_looped n.kind }

-- an output that is attached nowhere
abbrev pub unattached : ℕ → ℕ → Bus
unattached node out = record { node = node; out = out; to = None; gain = limits.unity_gain }

-- that many outputs of a node, from 0 on
abbrev pub outputs_of : ℕ → ℕ → List Bus
outputs_of node count = map (unattached node) (range_with_len 0 count)

-- the outputs of these nodes, node by node, where the first has that number
abbrev pub all_outputs : ℕ → List Node → List Bus
all_outputs node [] = []
all_outputs node (n ∷ nodes) = outputs_of node (outputs n.kind) ++ all_outputs (suc node) nodes

-- each node as its row has it, and every output unattached
abbrev pub unwired : List Node → PlanData
unwired nodes = record { nodes = map state_of nodes; buses = all_outputs 0 nodes }

abbrev pub attach_edits : ℕ → ℕ → Option ℕ → List Edit
attach_edits node out None = []
attach_edits node out (Some to) = Attach node out to ∷ []

-- a bus row is a gain edit and then, where it has a target, an attach edit
abbrev pub row_edits : BusRow → List Edit
row_edits b = SetGain b.node b.out b.gain ∷ attach_edits b.node b.out b.to

abbrev pub after_row : PlanData → BusRow → PlanData
after_row p b = fold after p (row_edits b)

-- the edits of all bus rows in order, whatever each is answered
abbrev pub opening : SceneData → PlanData
opening s = fold after_row (unwired s.nodes) s.buses
