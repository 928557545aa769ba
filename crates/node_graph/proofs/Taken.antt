-- Which of the first buses are attached to a node.
use Rattle.std.proofs.Common.{◌≡◌, ℕ, zero, suc, ◌+◌, ◌<◌, ◌≤◌, false, List, [], ◌∷◌, length, get_or, take, refl, sym, ◌∙◌, ap, arith, ◌⊎◌, inl, inr}
use Rattle.std.specs.Prelude.{slice_get}
use Rattle.std.proofs.lemmas.Bool.{cases_eq, cases_lt}
use Rattle.std.proofs.lemmas.List.{length-take-le}
use Rattle.std.proofs.lemmas.Option.{slice_get_past, slice_get-get_or}
use Rattle.scene_model.specs.declared.bus.Bus.{Bus}
use Rattle.node_graph.specs.Attached.{leads_to, is_attached}
use Rattle.node_graph.proofs.Wired.{leads}

read_taken : (buses : List Bus) (i j : ℕ) → j < i → slice_get (take i buses) j ≡ slice_get buses j
read_taken buses zero j below = absurd (omega arith)
read_taken [] (suc i) j below = refl
read_taken (b ∷ buses) (suc i) zero below = refl
read_taken (b ∷ buses) (suc i) (suc j) below = read_taken buses i j (omega arith)

taken_below : (buses : List Bus) (node i j : ℕ) → j < i → is_attached (take i buses) node j ≡ is_attached buses node j
taken_below buses node i j below = ap (leads node) (read_taken buses i j below)

pub taken_past : (buses : List Bus) (node i j : ℕ) → i ≤ length buses → i ≤ j → is_attached (take i buses) node j ≡ false
taken_past buses node i j within past =
    ap (leads node) (slice_get_past (take i buses) j (omega (arith, length-take-le i buses within)))

-- another number than the next is as it was
pub taken_more : (buses : List Bus) (node i j : ℕ) → i < length buses → (i ≡ j → ⊥) → is_attached (take (i + 1) buses) node j ≡ is_attached (take i buses) node j
taken_more buses node i j within other = by_order (cases_lt j i)
  where
    by_order : (j < i) ⊎ (i ≤ j) → is_attached (take (i + 1) buses) node j ≡ is_attached (take i buses) node j
    by_order (inl below) =
        taken_below buses node (i + 1) j (omega arith) ∙ sym (taken_below buses node i j below)
    by_order (inr past) =
        taken_past buses node (i + 1) j (omega arith) (omega arith) ∙ sym (taken_past buses node i j (omega arith) past)

-- the next number
pub taken_next : (buses : List Bus) (node i : ℕ) (d : Bus) → i < length buses → is_attached (take (i + 1) buses) node i ≡ leads_to node (get_or buses i d)
taken_next buses node i d within =
    taken_below buses node (i + 1) i (omega arith) ∙ ap (leads node) (slice_get-get_or buses i d within)

-- a bus that is not attached there adds nothing
pub taken_same : (buses : List Bus) (node i : ℕ) (d : Bus) (k : ℕ) → i < length buses → leads_to node (get_or buses i d) ≡ false → is_attached (take i buses) node k ≡ is_attached (take (i + 1) buses) node k
taken_same buses node i d k within leads_away = by_number (cases_eq i k)
  where
    by_number : (i ≡ k) ⊎ (i ≡ k → ⊥) → is_attached (take i buses) node k ≡ is_attached (take (i + 1) buses) node k
    by_number (inl same) =
        taken_past buses node i k (omega arith) (omega arith)
        ∙ sym (ap (is_attached (take (i + 1) buses) node) (sym same) ∙ taken_next buses node i d within ∙ leads_away)
    by_number (inr other) = sym (taken_more buses node i k within other)
