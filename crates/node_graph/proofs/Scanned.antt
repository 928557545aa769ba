-- The buses are gone through, and the numbers of those that are attached to a node are written.
use Rattle.std.proofs.Common.{◌≡◌, ℕ, ◌+◌, ◌<◌, ◌≤◌, Bool, true, false, List, [], ◌∷◌, ◌++◌, length, get_or, set, take, drop, refl, sym, ◌∙◌, ap, arith, ◌⊎◌, inl, inr}
use Rattle.std.specs.Prelude.{◌==◌}
use Rattle.std.proofs.lemmas.Bool.{cases_eq, eq-eqb, ne_eqb}
use Rattle.std.proofs.lemmas.List.{drop-drop, drop-set-lt, length-set, take_all, take_more_set}
use Rattle.scene_model.specs.declared.bus.Bus.{Bus}
use Rattle.node_graph.specs.Attached.{leads_to, is_attached, count_of}
use Rattle.node_graph.proofs.Counting.{one_if, count-cons, count-append}
use Rattle.node_graph.proofs.Taken.{taken_past, taken_more, taken_next, taken_same}

pub record IsScanned (buses : List Bus) (node i count : ℕ) (into new : List ℕ) : Type 0 where
  pub within : i ≤ length buses
  pub count_most : count ≤ i
  pub long : length new ≡ length into
  pub each_once : (k : ℕ) → count_of k (take count new) ≡ one_if (is_attached (take i buses) node k)
  pub rest : drop count new ≡ drop count into

pub scanned_none : (buses : List Bus) (node : ℕ) (into : List ℕ) → IsScanned buses node 0 0 into into
scanned_none buses node into = record { within = omega arith; count_most = omega arith; long = refl; each_once = λ k. refl; rest = refl }

pub scanned_more : (buses : List Bus) (node i count : ℕ) (d : Bus) (into new : List ℕ) → i < length buses → length buses ≤ length into → leads_to node (get_or buses i d) ≡ true → IsScanned buses node i count into new → IsScanned buses node (i + 1) (count + 1) into (set new count i)
scanned_more buses node i count d into new below room leads_here w = record {
  within = omega arith;
  count_most = (let most = w.count_most in omega arith);
  long = length-set new count i ∙ w.long;
  each_once = λ k. ap (count_of k) (take_more_set new count i inside) ∙ by_number k (cases_eq i k);
  rest = drop-set-lt (count + 1) new count i (omega arith) ∙ sym (drop-drop 1 count new) ∙ ap (drop 1) w.rest ∙ drop-drop 1 count into;
}
  where
    inside : count < length new
    inside = (let most = w.count_most in let long = w.long in omega arith)

    last : (k : ℕ) → count_of k (take count new ++ i ∷ []) ≡ one_if (is_attached (take i buses) node k) + one_if (i == k)
    last k =
        omega (arith, count-append k (take count new) (i ∷ []), count-cons k i [], w.each_once k)

    by_number : (k : ℕ) → (i ≡ k) ⊎ (i ≡ k → ⊥) → count_of k (take count new ++ i ∷ []) ≡ one_if (is_attached (take (i + 1) buses) node k)
    by_number k (inl same) =
        last k
        ∙ ap (λ (t : Bool). one_if t + one_if (i == k)) (taken_past buses node i k (omega arith) (omega arith))
        ∙ ap (λ (t : Bool). 0 + one_if t) (eq-eqb i k same)
        ∙ sym (ap one_if (ap (is_attached (take (i + 1) buses) node) (sym same) ∙ taken_next buses node i d below ∙ leads_here))
    by_number k (inr other) =
        let alone : one_if (is_attached (take i buses) node k) + one_if (i == k) ≡ one_if (is_attached (take i buses) node k) = ap (λ (t : Bool). one_if (is_attached (take i buses) node k) + one_if t) (ne_eqb i k other) ∙ omega arith in
        last k ∙ alone ∙ ap one_if (sym (taken_more buses node i k below other))

pub scanned_same : (buses : List Bus) (node i count : ℕ) (d : Bus) (into new : List ℕ) → i < length buses → leads_to node (get_or buses i d) ≡ false → IsScanned buses node i count into new → IsScanned buses node (i + 1) count into new
scanned_same buses node i count d into new below leads_away w = record {
  within = omega arith;
  count_most = (let most = w.count_most in omega arith);
  long = w.long;
  each_once = λ k. w.each_once k ∙ ap one_if (taken_same buses node i d k below leads_away);
  rest = w.rest;
}

pub scanned_all : (buses : List Bus) (node i count : ℕ) (into new : List ℕ) → length buses ≤ i → IsScanned buses node i count into new → (k : ℕ) → count_of k (take count new) ≡ one_if (is_attached buses node k)
scanned_all buses node i count into new past w k = w.each_once k ∙ ap (λ (bs : List Bus). one_if (is_attached bs node k)) (take_all i buses past)
