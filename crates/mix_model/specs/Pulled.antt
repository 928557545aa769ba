-- Which nodes are active at a frame, and which are pulled.
use Rattle.std.specs.Prelude.{ℕ, suc, Bool, false, ◌&&◌, ◌||◌, ◌==◌, nat_le, nat_lt, List, length, slice_index_or}
use Rattle.std.specs.List.{list_any}
use Rattle.scene_model.specs.declared.bus.Bus.{Bus}
use Rattle.scene_model.specs.declared.node.NodeKind.TheVariants.{Sound}
use Rattle.scene_model.specs.declared.node_state.NodeState.{NodeState}
use Rattle.scene_model.specs.PlanData.{PlanData}
use Rattle.scene_model.specs.Reach.{target_passes}
use Rattle.mix_model.specs.Iteration.{iterate}

-- what stands for a node that isn't there: one that is never started
abbrev pub no_node : NodeState
no_node = record { kind = Sound 0 false; started = false; from = 0; until = 0; seeks = 0; place = 0; looped = false }

abbrev pub node : PlanData → ℕ → NodeState
node p n = slice_index_or p.nodes n no_node

-- the endpoint's number, the one after those of the nodes
abbrev pub endpoint : PlanData → ℕ
endpoint p = length p.nodes

-- a node is active at frame t where it is started and from <= t < until
abbrev pub is_active : ℕ → NodeState → Bool
is_active t n = n.started && nat_le n.from t && nat_lt t n.until

-- one of the node's output buses is attached to a node that passes the test
abbrev pub leads_to_any : List Bus → (ℕ → Bool) → ℕ → Bool
leads_to_any buses test n = list_any (λ (b : Bus). b.node == n && target_passes test b.to) buses

-- The rule of what is pulled: the endpoint is, and so is an active node with an output bus attached to a node that is.
abbrev pub pulled_by : PlanData → ℕ → (ℕ → Bool) → ℕ → Bool
pulled_by p t is_pulled n = n == endpoint p || (is_active t (node p n) && leads_to_any p.buses is_pulled n)

-- Whether a node is pulled at frame t. A plan has no cycle, so no path through it takes a bus twice, and one iteration more
-- than there are buses reaches everything: a law says that these values solve the rule's equations, and that no others do.
unfoldable pub pulled : PlanData → ℕ → ℕ → Bool
pulled p t = iterate (pulled_by p t) false (suc (length p.buses))
