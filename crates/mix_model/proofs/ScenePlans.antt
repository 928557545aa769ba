-- The plans of a scene keep the number of its nodes, and a plan's buses may be taken in any order.
use Rattle.std.proofs.Common.{◌≡◌, ℕ, zero, suc, ◌<◌, ◌≤◌, List, [], ◌∷◌, length, get_or, refl, ◌∙◌, arith}
use Rattle.std.specs.Prelude.{fold}
use Rattle.std.specs.List.Sorted.{IsPermutation}
use Rattle.std.proofs.lemmas.List.{length-map}
use Rattle.std.proofs.lemmas.List.Sorted.{IsPermutation-sym, All-permutation, Contains-permutation, length_permutation}
use Rattle.scene_model.specs.declared.bus.Bus.{Bus}
use Rattle.scene_model.specs.declared.bus_row.BusRow.{BusRow}
use Rattle.scene_model.specs.declared.edit.Edit.{Edit}
use Rattle.scene_model.specs.IsPlan.{IsBusOf, IsPlan}
use Rattle.scene_model.specs.Limits as limits
use Rattle.scene_model.specs.Opening.{state_of, unwired, after_row}
use Rattle.scene_model.specs.PlanData.{PlanData}
use Rattle.scene_model.specs.Plans.{after}
use Rattle.scene_model.specs.Reach.{Path, HasNoCycle}
use Rattle.scene_model.specs.SceneData.{SceneData}
use Rattle.scene_model.specs.Times.{edits_at, plan_before, plan}
use Rattle.scene_model.proofs.PlanStays.{length-after, length-after_row}
use Rattle.mix_model.specs.OrderedBuses.{IsOrdered, AreOrderedBuses}

-- ---- nodes

pub nodes_run : (p : PlanData) (es : List Edit) → length (fold after p es).nodes ≡ length p.nodes
nodes_run p [] = refl
nodes_run p (e ∷ es) = nodes_run (after p e) es ∙ length-after p e

nodes_rows : (p : PlanData) (rows : List BusRow) → length (fold after_row p rows).nodes ≡ length p.nodes
nodes_rows p [] = refl
nodes_rows p (b ∷ rows) = nodes_rows (after_row p b) rows ∙ length-after_row p b

pub nodes_before : (s : SceneData) (t : ℕ) → length (plan_before s t).nodes ≡ length s.nodes
unfolding plan_before
nodes_before s zero = nodes_rows (unwired s.nodes) s.buses ∙ length-map s.nodes state_of
nodes_before s (suc t) = nodes_run (plan_before s t) (edits_at s.edits t) ∙ nodes_before s t

pub nodes_at : (s : SceneData) (t : ℕ) → length (plan s t).nodes ≡ length s.nodes
nodes_at s t = nodes_run (plan_before s t) (edits_at s.edits t) ∙ nodes_before s t

-- ---- an order of a plan's buses

path_moved : (buses ordered_buses : List Bus) → IsPermutation ordered_buses buses → (path : List Bus) (a b : ℕ) → Path ordered_buses a path b → Path buses a path b
path_moved buses ordered_buses moved [] a b same = same
path_moved buses ordered_buses moved (x ∷ path) a b (next, step, rest) =
    (next, record { among = Contains-permutation ordered_buses buses x moved step.among; node_is = step.node_is; to_is = step.to_is }, path_moved buses ordered_buses moved path next b rest)

no_cycle_moved : (buses ordered_buses : List Bus) → IsPermutation buses ordered_buses → HasNoCycle buses → HasNoCycle ordered_buses
no_cycle_moved buses ordered_buses moved none n b path way = none n b path (path_moved buses ordered_buses (IsPermutation-sym buses ordered_buses moved) (b ∷ path) n n way)

pub ordered_buses_are : (p : PlanData) (ordered_buses : List Bus) → IsPlan p → IsPermutation p.buses ordered_buses → IsOrdered ordered_buses → AreOrderedBuses (length p.nodes) ordered_buses
ordered_buses_are p ordered_buses is moved ordered = record {
  ordered = ordered;
  no_cycle = no_cycle_moved p.buses ordered_buses moved is.no_cycle;
  buses_are = All-permutation (IsBusOf (length p.nodes)) p.buses ordered_buses moved is.buses_are;
  gains_most = All-permutation (λ (b : Bus). b.gain ≤ limits.most_gain) p.buses ordered_buses moved is.gains_most;
  buses_most = rw (length_permutation p.buses ordered_buses moved) is.buses_most;
}

pub within_most : (p : PlanData) → IsPlan p → (k : ℕ) (d : Bus) → k < length p.buses → IsBusOf limits.most_nodes (get_or p.buses k d)
within_most p is k d inside =
    let bus = is.buses_are k d inside in
    let few = is.nodes_most in
    record { node_is = omega (arith, bus.node_is); to_is = λ to e. omega (arith, bus.to_is to e) }
