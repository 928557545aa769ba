-- What the rule says of one seat and of its slot.
use Rattle.std.proofs.Common.{◌≡◌, ℕ, ◌<◌, List, set, refl, sym, subst, ⊎_elim, arith, Option, Some, None}
use Rattle.std.specs.Prelude.{slice_index}
use Rattle.std.proofs.lemmas.List.{set-get_or}
use mathlib.Core.Option.{some, none}
use base.Stored.{Gv}
use Rattle.slot_tags.specs.declared.view.Role.{Role}
use Rattle.slot_tags.specs.declared.view.Role.TheVariants.{Splitter, Free}
use Rattle.slot_tags.specs.declared.view.JobCode.{JobCode}
use Rattle.slot_tags.specs.declared.view.Sizes.{Sizes}
use Rattle.slot_tags.specs.declared.view.View.{View}
use Rattle.slot_tags.specs.Rule.{Slots, HasSlot, KnowsLast, HoldsAs, Stands, Kept, code_of}
use Rattle.slot_tags.proofs.Frame.{OnlyAt}

-- the roles that have no slot
pub splitter_bare : (r : Role) (slot x : ℕ) → r ≡ Splitter → HasSlot r slot x → ⊥
splitter_bare r slot x e h = subst (λ q. HasSlot q slot x) e h

pub free_bare : (r : Role) (slot x : ℕ) → r ≡ Free → HasSlot r slot x → ⊥
free_bare r slot x e h = subst (λ q. HasSlot q slot x) e h

-- which a slot is
pub has_as : (r q : Role) (slot x : ℕ) → r ≡ q → HasSlot r slot x → HasSlot q slot x
has_as r q slot x e h = subst (λ z. HasSlot z slot x) e h

pub has_from : (r q : Role) (slot x : ℕ) → r ≡ q → HasSlot q slot x → HasSlot r slot x
has_from r q slot x e h = subst (λ z. HasSlot z slot x) (sym e) h

pub limit_as : (r q : Role) (known last : ℕ) → r ≡ q → KnowsLast r known last → KnowsLast q known last
limit_as r q known last e h = subst (λ z. KnowsLast z known last) e h

pub nowhere : {S : Type 0} (slots : ℕ) (t : Slots S) → OnlyAt slots slots t t
nowhere slots t = record { same = λ x lt n. (refl, refl, refl); grows = λ x. omega arith }

module _ {J : Type 0} where
  -- a slot whose bit is clear is free
  pub is_free : (last : ℕ) (t : Slots (Option J)) (views : List View) (x : ℕ) (q : mathlib.Core.Option.Option ℕ) → Stands last t views x q → t.bit x ≡ 0 → (q ≡ none) × (t.cell x ≡ some (some None)) × (t.count x < last)
  is_free last t views x none h clear = (refl, h.0, ⊎_elim (λ (a : (t.bit x ≡ 0) × (t.count x < last)). a.1) (λ (a : (t.bit x ≡ 1) × (t.count x ≡ last)). let b = a.0 in absurd (omega arith)) h.1)
  is_free last t views x (some i) h clear = let a = h.0 in absurd (omega arith)

  -- the bit of a slot that a seat has is set
  pub is_set : (last : ℕ) (t : Slots (Option J)) (views : List View) (x i : ℕ) (q : mathlib.Core.Option.Option ℕ) → Stands last t views x q → q ≡ some i → t.bit x ≡ 1
  is_set last t views x i q h e = (subst (λ z. Stands last t views x z) e h).0

module _ {J : Type 0} (code : J → Gv) where
  pub holds_as : (r q : Role) (last : ℕ) (t : Slots (Option J)) (slot number : ℕ) (job : Option JobCode) → r ≡ q → HoldsAs code r last t slot number job → HoldsAs code q last t slot number job
  holds_as r q last t slot number job e h = subst (λ z. HoldsAs code z last t slot number job) e h

  pub holds_from : (r q : Role) (last : ℕ) (t : Slots (Option J)) (slot number : ℕ) (job : Option JobCode) → r ≡ q → HoldsAs code q last t slot number job → HoldsAs code r last t slot number job
  holds_from r q last t slot number job e h = subst (λ z. HoldsAs code z last t slot number job) (sym e) h

  -- what has the code of no job is none
  pub code_none : (x : Option J) → code_of code x ≡ None → x ≡ None
  code_none None e = refl
  code_none (Some x) e = absurd (cc)

  -- a load leaves the words as they were
  pub loaded : (k : Sizes) (words : List ℕ) (homes : List (mathlib.Core.Option.Option (Option J))) (views : List View) (i : ℕ) → Kept code k record { words = words; homes = homes; views = views }
      → Kept code k record { words = set words i (slice_index words i); homes = homes; views = views }
  loaded k words homes views i h = subst (λ ws. Kept code k record { words = ws; homes = homes; views = views }) (sym (set-get_or words i 0)) h
