-- The fetch_or and the fetch_and of a slot's bit keep the rule.
use Rattle.std.proofs.Common.{◌≡◌, ◌≢◌, ◌⊎◌, ℕ, ◌*◌, ◌/◌, ◌%◌, ◌^◌, ◌≤◌, ◌<◌, List, [], ◌∷◌, ◌++◌, set, refl, sym, ap, ◌∙◌, subst, subst₂, inl, inr, ⊎_elim, arith, Option, None, length-set}
use Rattle.std.specs.Prelude.{slice_index, bit_or, bit_and}
use Rattle.std.specs.Int.{bit_at, bit_not, w64}
use Rattle.std.proofs.lemmas.Bool.{eq-eqb, ne_eqb}
use Rattle.std.proofs.lemmas.Nat.Bits.{bit_at-lt, bit_at_set_same, bit_at_set_other, bit_at_clear_same, bit_at_clear_other}
use mathlib.Core.Option.{some, none}
use mathlib.Core.Logic.{dite}
use native.Mathlib.Decide.{ℕ_discrete}
use lib.ListN.{get_elem?}
use base.Stored.{Gv}
use Rattle.atomic_table.specs.Table.{State, Me, step, stepped, Allows, keeps}
use Rattle.slot_tags.specs.declared.view.Role.TheVariants.{Free, Won, Held}
use Rattle.slot_tags.specs.declared.view.Note.TheVariants.{FetchOr}
use Rattle.slot_tags.specs.declared.view.Sizes.{Sizes}
use Rattle.slot_tags.specs.declared.view.View.{View}
use Rattle.slot_tags.specs.Rule.{Slots, slots_of, HasSlot, Kept, Tagged}
use Rattle.slot_tags.specs.Steps.{noted, tried, cleared, SetBit, ClearedBit}
use Rattle.slot_tags.proofs.Words.{slot_is, bit_here, bit_else, counts_stay}
use Rattle.slot_tags.proofs.Frame.{moved, still, replaced, past_append, past_grows}
use Rattle.slot_tags.proofs.Facts.{free_bare, has_as, limit_as, holds_as, holds_from, code_none, is_free, is_set}

module _ {J : Type 0} (code : J → Gv) (k : Sizes) (slot : ℕ) (inside : slot < 32 * k.groups) where
  abbrev slots : ℕ
  slots = 32 * k.groups

  abbrev group : ℕ
  group = slot / 32

  abbrev place : ℕ
  place = slot % 32

  abbrev mask : ℕ
  mask = 1 * 2 ^ place % 2 ^ 64

  module _ (id : ℕ) (v : View) (out : List (ℕ × Option J)) (s : State (Option J) View) (h : Kept code k s) (at : get_elem? s.views id ≡ some v) (fits : slice_index s.words group < 18446744073709551616) where
    abbrev t : Slots (Option J)
    t = slots_of k.groups s.words s.homes

    abbrev found : ℕ
    found = slice_index s.words group

    abbrev after : ℕ → Slots (Option J)
    after n = slots_of k.groups (set s.words group n) s.homes

    grown : (n : ℕ) (x : ℕ) → t.count x ≤ (after n).count x
    grown n x = let e = counts_stay k.groups slot s.words n inside h.words x in omega arith

    -- only the slot's own bit changes
    others : (n : ℕ) → ((i : ℕ) → i < 32 → i ≢ place → bit_at n i ≡ bit_at found i) → (x : ℕ) → x ≢ slot → ((after n).bit x ≡ t.bit x) × ((after n).count x ≡ t.count x) × ((after n).cell x ≡ t.cell x)
    others n same x apart = (bit_else k.groups slot s.words n inside h.words same x apart, counts_stay k.groups slot s.words n inside h.words x, refl)

    -- the rule, once the words and a view have changed
    kept : (n : ℕ) (w : View) → Tagged code slots k.last (after n) (set s.views id w) → Kept code k (stepped s group n id out w keeps)
    kept n w tagged = record { words = length-set s.words group n ∙ h.words; homes = h.homes; bound = h.bound; tagged = tagged }

    or_other : (i : ℕ) → i < 32 → i ≢ place → bit_at (bit_or found mask) i ≡ bit_at found i
    or_other i low apart = bit_at_set_other w64 found place (omega arith) i apart

    or_here : (after (bit_or found mask)).bit slot ≡ 1
    or_here = bit_here k.groups slot s.words (bit_or found mask) inside h.words ∙ bit_at_set_same w64 found place (omega arith)

    and_other : (i : ℕ) → i < 32 → i ≢ place → bit_at (bit_and found (bit_not w64 mask)) i ≡ bit_at found i
    and_other i low apart = bit_at_clear_other w64 found place (omega arith) i (omega arith) apart

    and_here : (after (bit_and found (bit_not w64 mask))).bit slot ≡ 0
    and_here = bit_here k.groups slot s.words (bit_and found (bit_not w64 mask)) inside h.words ∙ bit_at_clear_same w64 found place (omega arith)

    abbrev won : View
    won = record v { role = Won; slot = slot; notes = v.notes ++ FetchOr slot found ∷ [] }

    -- the bit was clear
    wins : v.role ≡ Free → bit_at found place ≡ 0 → Kept code k (stepped s group (bit_or found mask) id out won keeps)
    wins role clear =
        let n : ℕ = bit_or found mask in
        let old = h.tagged.seat id v at in
        let free = is_free k.last t s.views slot (h.tagged.owner slot) (h.tagged.slot slot inside) clear in
        kept n won (moved code slots k.last t (after n) s.views id slot v won (some id) h.tagged at
        record { same = λ x lt apart. others n or_other x apart; grows = grown n }
        (λ lt. inl free.0) (λ x has. absurd (free_bare v.role v.slot x role has))
        (λ lt. (or_here, (won, replaced s.views id won v at, refl)))
        (λ x has. (sym has, inside, refl))
        (limit_as v.role Free v.last k.last role old.limit)
        (let e = counts_stay k.groups slot s.words n inside h.words slot in let c = free.2 in omega arith, free.1)
        (past_grows t.count (after n).count v.given (grown n) old.past))

    -- the bit was set
    misses : v.role ≡ Free → bit_at found place ≡ 1 → Kept code k (stepped s group (bit_or found mask) id out (noted (FetchOr slot found) v) keeps)
    misses role busy =
        let n : ℕ = bit_or found mask in
        let old = h.tagged.seat id v at in
        kept n (noted (FetchOr slot found) v) (still code slots k.last t (after n) s.views id v (noted (FetchOr slot found) v) h.tagged at
        record {
          same = λ x lt apart. dite (ℕ_discrete x slot)
              (λ (e : x ≡ slot).
              let a : (after n).bit x ≡ t.bit x = ap (after n).bit e ∙ or_here ∙ sym (ap t.bit e ∙ busy) in
              (a, counts_stay k.groups slot s.words n inside h.words x, refl))
              (λ (ne : x ≢ slot). others n or_other x ne);
          grows = grown n;
        }
        (λ x has. free_bare v.role v.slot x role has) (λ x has. free_bare v.role v.slot x role has)
        old.limit (holds_from code v.role Free k.last (after n) v.slot v.number v.job role tt)
        (past_grows t.count (after n).count v.given (grown n) old.past))

    -- the bit is cleared by the tag that has the slot
    clears : v.role ≡ Held → v.job ≡ None → v.slot ≡ slot → v.number < k.last → Kept code k (stepped s group (bit_and found (bit_not w64 mask)) id out (cleared found v) keeps) × (bit_at found place ≡ 1)
    clears role job same below =
        let n : ℕ = bit_and found (bit_not w64 mask) in
        let old = h.tagged.seat id v at in
        let own = old.owns slot (subst (λ r. HasSlot r v.slot slot) (sym role) same) in
        let holds = subst (λ x. (t.count x ≡ v.number) × (v.number ≤ k.last) × ((y : Option J) × (t.cell x ≡ some (some y)) × (Rattle.slot_tags.specs.Rule.code_of code y ≡ v.job))) same (holds_as code v.role Held k.last t v.slot v.number v.job role old.holds) in
        let cell : t.cell slot ≡ some (some None) = holds.2.1 ∙ ap (λ (y : Option J). some (some y)) (code_none code holds.2.0 (holds.2.2 ∙ job)) in
        let count : (after n).count slot ≡ v.number = counts_stay k.groups slot s.words n inside h.words slot ∙ holds.0 in (
          kept n (cleared found v) (moved code slots k.last t (after n) s.views id slot v (cleared found v) none h.tagged at
              record { same = λ x lt apart. others n and_other x apart; grows = grown n }
              (λ lt. inr own.1) (λ x has. sym (has_as v.role Held v.slot x role has) ∙ same)
              (λ lt. (cell, inl (and_here, omega arith)))
              (λ x has. absurd has)
              (limit_as v.role Held v.last k.last role old.limit)
              (let e : (after n).count v.slot ≡ v.number = ap (after n).count same ∙ count in omega arith)
              (past_append (after n).count v.given ((v.slot, v.number) ∷ []) (past_grows t.count (after n).count v.given (grown n) old.past)
              (let e : (after n).count v.slot ≡ v.number = ap (after n).count same ∙ count in omega arith, tt))),
          is_set k.last t s.views slot id (h.tagged.owner slot) (h.tagged.slot slot inside) own.1,
        )

  pub sets_bit : (id : ℕ) (me : Me (Option J) View) → me.0.role ≡ Free → Allows (Kept code k) slots id me group (λ n. bit_or n mask) (SetBit (step slots group mask 0 none) me)
  sets_bit id me role s h count at fits =
      let n : ℕ = slice_index s.words group in
      let e = slot_is slot in
      ⊎_elim
      (λ (clear : bit_at n place ≡ 0). (
        won id me.0 me.1 s h at fits,
        keeps,
        tt,
        wins id me.0 me.1 s h at fits role clear,
        subst (λ (x : ℕ). ◌≡◌ {A = Me (Option J) View} (record me.0 { role = Won; slot = slot; notes = me.0.notes ++ FetchOr slot n ∷ [] }, me.1) (tried x n me.0, me.1)) (sym e) (rw (eq-eqb (bit_at n place) 0 clear) refl),
      ))
      (λ (busy : bit_at n place ≡ 1). (
        noted (FetchOr slot n) me.0,
        keeps,
        tt,
        misses id me.0 me.1 s h at fits role busy,
        subst (λ (x : ℕ). ◌≡◌ {A = Me (Option J) View} (noted (FetchOr slot n) me.0, me.1) (tried x n me.0, me.1)) (sym e) (rw (ne_eqb (bit_at n place) 0 (λ z. absurd (omega arith))) refl),
      ))
      (let b : (bit_at n place ≡ 0) ⊎ (bit_at n place ≡ 1) = two (bit_at n place) (bit_at-lt n place) in b)
    where
      two : (b : ℕ) → b < 2 → (b ≡ 0) ⊎ (b ≡ 1)
      two b lt = dite (ℕ_discrete b 0) (λ (z : b ≡ 0). inl z) (λ (z : b ≢ 0). inr (omega arith))

  pub clears_bit : (id : ℕ) (me : Me (Option J) View) → me.0.role ≡ Held → me.0.job ≡ None → me.0.slot ≡ slot → me.0.number < k.last
      → Allows (Kept code k) slots id me group (λ n. bit_and n (bit_not w64 mask)) (ClearedBit (step slots group (bit_not w64 mask) 0 none) me)
  clears_bit id me role job same below s h count at fits =
      let c = clears id me.0 me.1 s h at fits role job same below in
      (cleared (slice_index s.words group) me.0, keeps, tt, c.0, (refl, subst (λ x. bit_at (slice_index s.words group) (x % 32) ≡ 1) (sym same) c.1))

module _ {J : Type 0} (code : J → Gv) (key k : Sizes) (cells slot : ℕ) (inside : slot < 32 * k.groups) (about : key ≡ k) (many : cells ≡ 32 * k.groups) (id : ℕ) (me : Me (Option J) View) where
  pub sets_bit_as : me.0.role ≡ Free → Allows (Kept code key) cells id me (slot / 32) (λ n. bit_or n (1 * 2 ^ (slot % 32) % 2 ^ 64)) (SetBit (step cells (slot / 32) (1 * 2 ^ (slot % 32) % 2 ^ 64) 0 none) me)
  sets_bit_as role = subst₂ (λ a b. Allows (Kept code a) b id me (slot / 32) (λ n. bit_or n (1 * 2 ^ (slot % 32) % 2 ^ 64)) (SetBit (step b (slot / 32) (1 * 2 ^ (slot % 32) % 2 ^ 64) 0 none) me)) (sym about) (sym many) (sets_bit code k slot inside id me role)

  pub clears_bit_as : me.0.role ≡ Held → me.0.job ≡ None → me.0.slot ≡ slot → me.0.number < k.last
      → Allows (Kept code key) cells id me (slot / 32) (λ n. bit_and n (bit_not w64 (1 * 2 ^ (slot % 32) % 2 ^ 64))) (ClearedBit (step cells (slot / 32) (bit_not w64 (1 * 2 ^ (slot % 32) % 2 ^ 64)) 0 none) me)
  clears_bit_as role job same below = subst₂ (λ a b. Allows (Kept code a) b id me (slot / 32) (λ n. bit_and n (bit_not w64 (1 * 2 ^ (slot % 32) % 2 ^ 64))) (ClearedBit (step b (slot / 32) (bit_not w64 (1 * 2 ^ (slot % 32) % 2 ^ 64)) 0 none) me)) (sym about) (sym many)
      (clears_bit code k slot inside id me role job same below)
