-- What the rule says at every moment, in sentences of its own.
use Rattle.std.proofs.Common.{◌≡◌, ◌⊎◌, ℕ, zero, suc, ◌*◌, ◌≤◌, ◌<◌, List, [], ◌∷◌, sym, ap, ◌∙◌, inl, inr, ⊎_elim, arith, Option, None}
use mathlib.Core.Option.{some, none, some-injective, some-ne-none}
use lib.ListN.{get_elem?}
use base.Stored.{Gv}
use Rattle.atomic_table.specs.Table.{State}
use Rattle.slot_tags.specs.declared.view.Role.{Role}
use Rattle.slot_tags.specs.declared.view.Role.TheVariants.{Splitter, Free, Won, Held, Open, Given, Spent}
use Rattle.slot_tags.specs.declared.view.JobCode.{JobCode}
use Rattle.slot_tags.specs.declared.view.Sizes.{Sizes}
use Rattle.slot_tags.specs.declared.view.View.{View}
use Rattle.slot_tags.specs.Rule.{Slots, slots_of, HasSlot, HoldsAs, Lies, Stands, Kept}
use Rattle.slot_tags.specs.Steps.{IsNewer}
use Rattle.slot_tags.proofs.Facts.{is_free, holds_as}

-- a tag that is newer than those of its slot in a list isn't among them
pub newer_is_not_among : (slot number : ℕ) (xs : List (ℕ × ℕ)) → IsNewer slot number xs → (i : ℕ) → get_elem? xs i ≡ some (slot, number) → ⊥
newer_is_not_among slot number [] newer i at = some-ne-none (slot, number) (sym at)
newer_is_not_among slot number (x ∷ xs) newer zero at =
    let same : x ≡ (slot, number) = some-injective x (slot, number) at in
    let below : x.1 < number = newer.0 (ap (λ (y : ℕ × ℕ). y.0) same) in
    let e : x.1 ≡ number = ap (λ (y : ℕ × ℕ). y.1) same in
    absurd (omega arith)
newer_is_not_among slot number (x ∷ xs) newer (suc i) at = newer_is_not_among slot number xs newer.1 i at

module _ {J : Type 0} (code : J → Gv) (k : Sizes) where
  -- the counter of a slot that a view has
  held_at_most : (r : Role) (t : Slots (Option J)) (slot number x : ℕ) (job : Option JobCode) → HasSlot r slot x → HoldsAs code r k.last t slot number job → t.count x ≤ k.last
  held_at_most Splitter t slot number x job has h = absurd has
  held_at_most Free t slot number x job has h = absurd has
  held_at_most Won t slot number x job has h = let e : t.count slot ≡ t.count x = ap t.count has in let a = h.0 in omega arith
  held_at_most Held t slot number x job has h = let e : t.count slot ≡ t.count x = ap t.count has in let a = h.0 in let b = h.1 in omega arith
  held_at_most Open t slot number x job has h = let e : t.count slot ≡ t.count x = ap t.count has in let a = h.0 in let b = h.1 in omega arith
  held_at_most Given t slot number x job has h = absurd has
  held_at_most Spent t slot number x job has h = absurd has

  module _ (s : State (Option J) View) (h : Kept code k s) where
    abbrev t : Slots (Option J)
    t = slots_of k.groups s.words s.homes

    -- a view has the slot
    abbrev IsHeld : ℕ → Type 0
    IsHeld x = (i : ℕ) × (v : View) × (get_elem? s.views i ≡ some v) × HasSlot v.role v.slot x

    -- no two views have one slot
    pub one_holder : (i j x : ℕ) (v w : View) → get_elem? s.views i ≡ some v → get_elem? s.views j ≡ some w → HasSlot v.role v.slot x → HasSlot w.role w.slot x → i ≡ j
    one_holder i j x v w at at' has has' = some-injective i j (sym ((h.tagged.seat i v at).owns x has).1 ∙ ((h.tagged.seat j w at').owns x has').1)

    -- the bit of a slot that a view has is set
    pub held_is_set : (i x : ℕ) (v : View) → get_elem? s.views i ≡ some v → HasSlot v.role v.slot x → t.bit x ≡ 1
    held_is_set i x v at has = let own = (h.tagged.seat i v at).owns x has in bit_of x (h.tagged.owner x) (h.tagged.slot x own.0) i own.1
      where
        bit_of : (x : ℕ) (q : mathlib.Core.Option.Option ℕ) → Stands k.last t s.views x q → (i : ℕ) → q ≡ some i → t.bit x ≡ 1
        bit_of x none p i e = absurd (cc)
        bit_of x (some j) p i e = p.0

    -- a slot whose bit is set is held, or its counter has reached the last number
    pub set_is_held : (x : ℕ) → x < 32 * k.groups → t.bit x ≡ 1 → IsHeld x ⊎ (t.count x ≡ k.last)
    set_is_held x lt busy = by_owner (h.tagged.owner x) (h.tagged.slot x lt)
      where
        by_owner : (q : mathlib.Core.Option.Option ℕ) → Stands k.last t s.views x q → IsHeld x ⊎ (t.count x ≡ k.last)
        by_owner none p = ⊎_elim (λ (a : (t.bit x ≡ 0) × (t.count x < k.last)). let b = a.0 in absurd (omega arith)) (λ (a : (t.bit x ≡ 1) × (t.count x ≡ k.last)). inr a.1) p.1
        by_owner (some i) p = inl (i, p.1.0, p.1.1, p.1.2)

    -- a slot whose bit is clear has a counter below the last number, and its cell is at home and empty
    pub clear_is_free : (x : ℕ) → x < 32 * k.groups → t.bit x ≡ 0 → (t.count x < k.last) × (t.cell x ≡ some (some None))
    clear_is_free x lt clear = let f = is_free k.last t s.views x (h.tagged.owner x) (h.tagged.slot x lt) clear in (f.2, f.1)

    -- no counter is above the last number
    pub count_at_most : (x : ℕ) → x < 32 * k.groups → t.count x ≤ k.last
    count_at_most x lt = by_owner (h.tagged.owner x) (h.tagged.slot x lt)
      where
        by_owner : (q : mathlib.Core.Option.Option ℕ) → Stands k.last t s.views x q → t.count x ≤ k.last
        by_owner none p = ⊎_elim (λ (a : (t.bit x ≡ 0) × (t.count x < k.last)). let b = a.1 in omega arith) (λ (a : (t.bit x ≡ 1) × (t.count x ≡ k.last)). let b = a.1 in omega arith) p.1
        by_owner (some i) p = let v = p.1.0 in held_at_most v.role t v.slot v.number x v.job p.1.2 (h.tagged.seat i v p.1.1).holds

    -- a view that holds a slot has the slot's counter for its number, and the slot's cell is at home with its job
    pub held_has : (i : ℕ) (v : View) → get_elem? s.views i ≡ some v → v.role ≡ Held → (t.count v.slot ≡ v.number) × Lies code t v.slot v.job
    held_has i v at role = let p = holds_as code v.role Held k.last t v.slot v.number v.job role (h.tagged.seat i v at).holds in (p.0, p.2)
