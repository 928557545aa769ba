-- Rows that were read gave one value each, in order.
use Rattle.std.proofs.Common.{◌≡◌, ℕ, List, [], ◌∷◌, ◌++◌, length, Result, Ok, refl, sym, ◌∙◌, ap, arith, append-nil, append_assoc}
use Rattle.scene_script.specs.declared.fault.SceneFault.{SceneFault}
use Rattle.scene_script.specs.Checked.{each}
use Rattle.scene_script.specs.RowsRead.{IsReadInPlace, AreReadInOrder}
use Rattle.scene_script.proofs.FirstFaults.{each_append}
use Rattle.scene_script.proofs.SceneLaws.{went}

-- what rows gave stands behind what was there
record Extends {B : Type 0} (start all : List B) (count : ℕ) : Type 0 where
  later : List B
  all_are : all ≡ start ++ later
  as_many : length later ≡ count

extends : {A B : Type 0} (one : List B → A → Result B SceneFault) (start : List B) (rows : List A) (all : List B) → each one start rows ≡ Ok all → Extends start all (length rows)
extends {A} {B} one start [] all e = record { later = []; all_are = sym (same start all e) ∙ sym (append-nil start); as_many = refl }
  where
    same : (xs ys : List B) → ◌≡◌ {A = Result (List B) SceneFault} (Ok xs) (Ok ys) → xs ≡ ys
    same xs ys e = cc
extends one start (x ∷ rows) all e =
    let w = went (one start x) (λ y. each one (start ++ y ∷ []) rows) all e in
    let rest = extends one (start ++ w.value ∷ []) rows all w.rest in
    record {
      later = w.value ∷ rest.later;
      all_are = rest.all_are ∙ append_assoc start (w.value ∷ []) rest.later;
      as_many = omega (arith, rest.as_many);
    }

module _ {A B : Type 0} (one : List B → A → Result B SceneFault) where
  in_place : (rows : List A) (all : List B) → each one [] rows ≡ Ok all → (before : List A) (row : A) (behind : List A) → rows ≡ before ++ row ∷ behind → IsReadInPlace one before row all
  in_place rows all e before row behind is =
      let parts = went (each one [] before) (λ read. each one read (row ∷ behind)) all (sym (each_append one [] before (row ∷ behind)) ∙ ap (each one []) (sym is) ∙ e) in
      let w = went (one parts.value row) (λ y. each one (parts.value ++ y ∷ []) behind) all parts.rest in
      let first = extends one [] before parts.value parts.is in
      let rest = extends one (parts.value ++ w.value ∷ []) behind all w.rest in
      record {
        read = parts.value;
        value = w.value;
        later = rest.later;
        before_is = parts.is;
        as_many = ap length first.all_are ∙ first.as_many;
        row_is = w.is;
        all_are = rest.all_are ∙ append_assoc parts.value (w.value ∷ []) rest.later;
      }

  pub in_order : (rows : List A) (all : List B) → each one [] rows ≡ Ok all → AreReadInOrder one rows all
  in_order rows all e =
      let whole = extends one [] rows all e in
      record { as_many = ap length whole.all_are ∙ whole.as_many; each_row = in_place rows all e }
