-- The fetch_add of a slot's counter keeps the rule.
use Rattle.std.proofs.Common.{◌≡◌, ◌≢◌, ℕ, ◌+◌, ◌*◌, ◌%◌, ◌^◌, ◌≤◌, ◌<◌, List, [], ◌∷◌, set, refl, sym, ap, ◌∙◌, subst, subst₂, inr, arith, Option, None, length-set}
use Rattle.std.specs.Prelude.{slice_index}
use mathlib.Core.Option.{some, none}
use mathlib.Core.Logic.{dite}
use native.Mathlib.Decide.{ℕ_discrete}
use lib.ListN.{get_elem?}
use base.Stored.{Gv}
use Rattle.atomic_table.specs.Table.{State, Me, step, stepped, Allows, keeps}
use Rattle.slot_tags.specs.declared.view.Role.TheVariants.{Won}
use Rattle.slot_tags.specs.declared.view.Sizes.{Sizes}
use Rattle.slot_tags.specs.declared.view.View.{View}
use Rattle.slot_tags.specs.Rule.{Slots, slots_of, HasSlot, ArePast, Kept}
use Rattle.slot_tags.specs.Steps.{counted, CountedUp, IsNewer}
use Rattle.slot_tags.proofs.Words.{count_here, count_else, bits_stay}
use Rattle.slot_tags.proofs.Frame.{moved, replaced, past_grows}
use Rattle.slot_tags.proofs.Facts.{has_as, limit_as, holds_as, is_set}

-- a number above a slot's counter is above those of all its tags
newer : (count : ℕ → ℕ) (slot number : ℕ) (xs : List (ℕ × ℕ)) → count slot < number → ArePast count xs → IsNewer slot number xs
newer count slot number [] above past = tt
newer count slot number (x ∷ xs) above past = ((λ e. let a : x.1 ≤ count slot = subst (λ y. x.1 ≤ count y) e past.0 in omega arith), newer count slot number xs above past.1)

module _ {J : Type 0} (code : J → Gv) (k : Sizes) (slot : ℕ) (inside : slot < 32 * k.groups) where
  abbrev slots : ℕ
  slots = 32 * k.groups

  module _ (id : ℕ) (v : View) (out : List (ℕ × Option J)) (s : State (Option J) View) (h : Kept code k s) (at : get_elem? s.views id ≡ some v) (role : v.role ≡ Won) (same : v.slot ≡ slot) where
    abbrev t : Slots (Option J)
    t = slots_of k.groups s.words s.homes

    abbrev found : ℕ
    found = slice_index s.words (k.groups + slot)

    abbrev after : ℕ → Slots (Option J)
    after n = slots_of k.groups (set s.words (k.groups + slot) n) s.homes

    won : (found < k.last) × (t.cell slot ≡ some (some None))
    won = subst (λ x. (t.count x < k.last) × (t.cell x ≡ some (some None))) same (holds_as code v.role Won k.last t v.slot v.number v.job role (h.tagged.seat id v at).holds)

    sum_is : (found + 1) % 2 ^ 64 ≡ found + 1
    sum_is = let a = won.0 in let b = h.bound in omega arith

    grown : (x : ℕ) → t.count x ≤ (after (found + 1)).count x
    grown x = dite (ℕ_discrete x slot)
        (λ (e : x ≡ slot). subst (λ y. t.count y ≤ (after (found + 1)).count y) (sym e) (let c = count_here k.groups slot s.words (found + 1) inside h.words in omega arith))
        (λ (n : x ≢ slot). let c = count_else k.groups slot s.words (found + 1) inside h.words x n in omega arith)

    rises : Kept code k (stepped s (k.groups + slot) (found + 1) id out (counted found v) keeps)
    rises =
        let n : ℕ = found + 1 in
        let old = h.tagged.seat id v at in
        let own = old.owns slot (subst (λ r. HasSlot r v.slot slot) (sym role) same) in
        let count : (after n).count v.slot ≡ n = ap (after n).count same ∙ count_here k.groups slot s.words n inside h.words in
        let set_bit : t.bit slot ≡ 1 = is_set k.last t s.views slot id (h.tagged.owner slot) (h.tagged.slot slot inside) own.1 in
        record {
          words = length-set s.words (k.groups + slot) n ∙ h.words;
          homes = h.homes;
          bound = h.bound;
          tagged = moved code slots k.last t (after n) s.views id slot v (counted found v) (some id) h.tagged at
              record { same = λ x lt apart. (bits_stay k.groups slot s.words n inside h.words x lt, count_else k.groups slot s.words n inside h.words x apart, refl); grows = grown }
              (λ lt. inr own.1) (λ x has. sym (has_as v.role Won v.slot x role has) ∙ same)
              (λ lt. (bits_stay k.groups slot s.words n inside h.words slot inside ∙ set_bit, (counted found v, replaced s.views id (counted found v) v at, same)))
              (λ x has. (sym has ∙ same, inside, refl))
              (limit_as v.role Won v.last k.last role old.limit)
              (count, let a = won.0 in omega arith, (None, ap t.cell same ∙ won.1, refl))
              (past_grows t.count (after n).count v.given grown old.past);
        }

    tells : (found < v.last) × (found + 1 < 2 ^ 32) × IsNewer v.slot (found + 1) v.given
    tells =
        let old = h.tagged.seat id v at in
        let limit = limit_as v.role Won v.last k.last role old.limit in
        (let a = won.0 in omega arith, let a = won.0 in let b = h.bound in omega arith, newer t.count v.slot (found + 1) v.given (let e : t.count v.slot ≡ found = ap t.count same in omega arith) old.past)

  pub counts_up : (id : ℕ) (me : Me (Option J) View) → me.0.role ≡ Won → me.0.slot ≡ slot → Allows (Kept code k) slots id me (k.groups + slot) (λ n. (n + 1) % 2 ^ 64) (CountedUp (step slots (k.groups + slot) 1 0 none) me)
  counts_up id me role same s h size at fits =
      let n : ℕ = slice_index s.words (k.groups + slot) in
      let told = tells id me.0 me.1 s h at role same in (
        counted n me.0,
        keeps,
        tt,
        subst (λ m. Kept code k (stepped s (k.groups + slot) m id me.1 (counted n me.0) keeps)) (sym (sum_is id me.0 me.1 s h at role same)) (rises id me.0 me.1 s h at role same),
        (refl, told.0, told.1, told.2),
      )

module _ {J : Type 0} (code : J → Gv) (key k : Sizes) (cells slot : ℕ) (inside : slot < 32 * k.groups) (about : key ≡ k) (many : cells ≡ 32 * k.groups) (id : ℕ) (me : Me (Option J) View) where
  pub counts_up_as : me.0.role ≡ Won → me.0.slot ≡ slot → Allows (Kept code key) cells id me (k.groups + slot) (λ n. (n + 1) % 2 ^ 64) (CountedUp (step cells (k.groups + slot) 1 0 none) me)
  counts_up_as role same = subst₂ (λ a b. Allows (Kept code a) b id me (k.groups + slot) (λ n. (n + 1) % 2 ^ 64) (CountedUp (step b (k.groups + slot) 1 0 none) me)) (sym about) (sym many) (counts_up code k slot inside id me role same)
