-- What is true of every plan, and the conditions of an edit.
use Rattle.std.specs.Prelude.{◌≡◌, ◌≤◌, ◌<◌, ℕ, suc, Bool, true, false, IsTrue, ◌&&◌, nat_le, nat_lt, List, [], ◌∷◌, ◌++◌, length, map, Some, All, slice_get}
use Rattle.std.specs.List.{range_with_len}
use Rattle.std.specs.Option.{option_map_or}
use Rattle.scene_model.specs.declared.node.NodeKind.{NodeKind}
use Rattle.scene_model.specs.Buses.{outputs}
use Rattle.scene_model.specs.declared.bus.Bus.{Bus}
use Rattle.scene_model.specs.declared.node_state.NodeState.{NodeState}
use Rattle.scene_model.specs.declared.edit.Edit.{Edit}
use Rattle.scene_model.specs.declared.edit.Edit.TheVariants.{Attach, Detach, SetGain, Start, Stop, From, Until, Seek, Loop}
use Rattle.scene_model.specs.IsScene.{is_edit}
use Rattle.scene_model.specs.Limits as limits
use Rattle.scene_model.specs.PlanData.{PlanData}
use Rattle.scene_model.specs.Plans.{is_sound_kind}
use Rattle.scene_model.specs.Reach.{HasNoCycle}

-- a bus of one of these many nodes, attached to one of them, to the endpoint, which has the next number, or to none
pub record IsBusOf (nodes : ℕ) (b : Bus) : Type 0 where
  pub node_is : b.node < nodes
  pub to_is : (to : ℕ) → b.to ≡ Some to → to ≤ nodes

-- The number of seeks and the place are in their ranges. A node that had no seek is at place 0, and one that isn't a sound
-- had none and isn't looped.
pub record IsNodeState (n : NodeState) : Type 0 where
  pub seeks_most : n.seeks ≤ limits.most_seeks
  pub place_most : n.place ≤ limits.last_place
  pub place_unsought : n.seeks ≡ 0 → n.place ≡ 0
  pub seeks_of_sound : is_sound_kind n.kind ≡ false → n.seeks ≡ 0
  pub looped_of_sound : is_sound_kind n.kind ≡ false → n.looped ≡ false

-- the times of a node are frames that a row may name
pub record HasTimesInRange (n : NodeState) : Type 0 where
  pub from_most : n.from ≤ limits.most_frames
  pub until_most : n.until ≤ limits.most_frames

-- and so it is with each node of a plan
abbrev pub AreTimesInRange : PlanData → Type 0
AreTimesInRange p = All HasTimesInRange p.nodes

-- a bus by its node and the number of the output there
abbrev pub output_of : Bus → ℕ × ℕ
output_of b = (b.node, b.out)

-- the outputs of nodes of these kinds, node by node, where the first node has that number
abbrev pub outputs_in_order : ℕ → List NodeKind → List (ℕ × ℕ)
outputs_in_order node [] = []
outputs_in_order node (kind ∷ kinds) =
    map (λ out. (node, out)) (range_with_len 0 (outputs kind)) ++ outputs_in_order (suc node) kinds

abbrev pub kinds : List NodeState → List NodeKind
kinds nodes = map (λ (n : NodeState). n.kind) nodes

pub record IsPlan (p : PlanData) : Type 0 where
  pub nodes_most : length p.nodes ≤ limits.most_nodes
  pub buses_most : length p.buses ≤ limits.most_buses
  pub states_are : All IsNodeState p.nodes
  pub outputs_are : map output_of p.buses ≡ outputs_in_order 0 (kinds p.nodes)
  pub buses_are : All (IsBusOf (length p.nodes)) p.buses
  pub gains_most : All (λ (b : Bus). b.gain ≤ limits.most_gain) p.buses
  pub no_cycle : HasNoCycle p.buses

-- the edit's node is one of these many, and its target one of these or the endpoint
abbrev pub names_nodes : ℕ → Edit → Bool
names_nodes nodes (Attach node out to) = nat_lt node nodes && nat_le to nodes
names_nodes nodes (Detach node out) = nat_lt node nodes
names_nodes nodes (SetGain node out gain) = nat_lt node nodes
names_nodes nodes (Start node) = nat_lt node nodes
names_nodes nodes (Stop node) = nat_lt node nodes
names_nodes nodes (From node value) = nat_lt node nodes
names_nodes nodes (Until node value) = nat_lt node nodes
names_nodes nodes (Seek node place) = nat_lt node nodes
names_nodes nodes (Loop node on) = nat_lt node nodes

-- how many seeks the node has had
abbrev pub seeks_at : List NodeState → ℕ → ℕ
seeks_at nodes node = option_map_or (λ (n : NodeState). n.seeks) (slice_get nodes node) 0

-- a seek's place is in its range, and its node had fewer seeks than the most
abbrev pub may_seek : List NodeState → Edit → Bool
may_seek nodes (Seek node place) = nat_le place limits.last_place && nat_lt (seeks_at nodes node) limits.most_seeks
may_seek nodes (Attach node out to) = true
may_seek nodes (Detach node out) = true
may_seek nodes (SetGain node out gain) = true
may_seek nodes (Start node) = true
may_seek nodes (Stop node) = true
may_seek nodes (From node value) = true
may_seek nodes (Until node value) = true
may_seek nodes (Loop node on) = true

-- whether an edit may be applied to a plan at all, be it done or refused
abbrev pub can_apply : PlanData → Edit → Bool
can_apply p e = names_nodes (length p.nodes) e && may_seek p.nodes e

-- each edit that a scene of that many nodes may have may be applied
abbrev pub TakesEdits : ℕ → PlanData → Type 0
TakesEdits nodes p = (e : Edit) → IsTrue (is_edit nodes e) → IsTrue (can_apply p e)
