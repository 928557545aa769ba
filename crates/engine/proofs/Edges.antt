-- Where no edge lies between two frames, a node is active at both or at none.
use Rattle.std.proofs.Common.{◌≡◌, ℕ, ◌+◌, ◌-◌, ◌<◌, ◌≤◌, Bool, true, false, ltb, eqb, List, length, refl, sym, subst, arith}
use Rattle.std.specs.Prelude.{slice_index_or}
use Rattle.std.proofs.lemmas.Bool.{eqb-true, eqb-false, ltb-true, ltb-false}
use Rattle.std.proofs.lemmas.List.{get_or_past}
use Rattle.scene_model.specs.declared.node_state.NodeState.{NodeState}
use Rattle.scene_model.specs.PlanData.{PlanData}
use Rattle.mix_model.specs.Pulled.{no_node, node, is_active}
use Rattle.mix_model.specs.Spans.{IsApart, AreApart, IsSteady}
use Rattle.mix_model.proofs.Spans.{active_same}

pub steady_if : (p : PlanData) (nodes : List NodeState) (t until : ℕ) → p.nodes ≡ nodes → ((k : ℕ) → k < length nodes → AreApart (slice_index_or nodes k no_node) t until) → IsSteady p t (until - t)
steady_if p nodes t until same apart i n below = by_place (ltb n (length nodes)) refl
  where
    at_nodes : is_active (t + i) (slice_index_or nodes n no_node) ≡ is_active t (slice_index_or nodes n no_node) → is_active (t + i) (node p n) ≡ is_active t (node p n)
    at_nodes e = rw same e

    by_place : (b : Bool) → ltb n (length nodes) ≡ b → is_active (t + i) (node p n) ≡ is_active t (node p n)
    by_place true e = at_nodes (active_same (slice_index_or nodes n no_node) t i until below (apart n (ltb-true n (length nodes) e)))
    by_place false e = let past = ltb-false n (length nodes) e in at_nodes (rw (get_or_past nodes n no_node past) refl)

pub apart_less : (n : NodeState) (t until less : ℕ) → less ≤ until → AreApart n t until → AreApart n t less
apart_less n t until less le apart = record {
  from_apart = λ p. let q = apart.from_apart p in omega (arith, q, le);
  until_apart = λ p. let q = apart.until_apart p in omega (arith, q, le);
}

-- one more node
pub all_apart : (nodes : List NodeState) (i t until mid less : ℕ) → mid ≤ until → less ≤ mid → ((k : ℕ) → k < i → AreApart (slice_index_or nodes k no_node) t until)
    → IsApart (slice_index_or nodes i no_node).from t less → IsApart (slice_index_or nodes i no_node).until t mid → (k : ℕ) → k < i + 1 → AreApart (slice_index_or nodes k no_node) t less
all_apart nodes i t until mid less le le' before from_apart until_apart k below = by_place (eqb k i) refl
  where
    by_place : (b : Bool) → eqb k i ≡ b → AreApart (slice_index_or nodes k no_node) t less
    by_place true e = subst (λ n. AreApart (slice_index_or nodes n no_node) t less) (sym (eqb-true k i e)) (record { from_apart = from_apart; until_apart = λ p. let q = until_apart p in omega (arith, q, le') })
    by_place false e = let other = eqb-false k i e in apart_less (slice_index_or nodes k no_node) t until less (omega (arith, le, le')) (before k (omega (arith, below, other)))
