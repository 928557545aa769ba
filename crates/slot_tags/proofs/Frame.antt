-- A step of one seat, which touches at most one slot, keeps what is so of all other slots and seats.
use Rattle.std.proofs.Common.{◌≡◌, ◌≢◌, ◌⊎◌, ℕ, zero, suc, ◌≤◌, ◌<◌, cond, ◌==◌, List, [], ◌∷◌, ◌++◌, set, refl, sym, ap, ◌∙◌, subst, inl, inr, ⊎_elim, arith, Option}
use Rattle.std.proofs.lemmas.Bool.{eq-eqb, ne_eqb}
use mathlib.Core.Option.{some, none, some-injective, some-ne-none}
use mathlib.Core.Logic.{dite}
use native.Mathlib.Decide.{ℕ_discrete}
use lib.ListN.{get_elem?}
use base.Stored.{Gv}
use Rattle.atomic_table.proofs.Lists.{at_set, set_else, at_snoc, at_longer}
use Rattle.slot_tags.specs.declared.view.Role.{Role}
use Rattle.slot_tags.specs.declared.view.Role.TheVariants.{Splitter, Free, Won, Held, Open, Given, Spent}
use Rattle.slot_tags.specs.declared.view.JobCode.{JobCode}
use Rattle.slot_tags.specs.declared.view.View.{View}
use Rattle.slot_tags.specs.Rule.{Slots, HasSlot, KnowsLast, ArePast, HoldsAs, Stands, Knows, Tagged}

pub past_grows : (c d : ℕ → ℕ) (xs : List (ℕ × ℕ)) → ((x : ℕ) → c x ≤ d x) → ArePast c xs → ArePast d xs
past_grows c d [] grows h = tt
past_grows c d (x ∷ xs) grows h = (let a = h.0 in let b = grows x.0 in omega arith, past_grows c d xs grows h.1)

pub past_append : (c : ℕ → ℕ) (xs ys : List (ℕ × ℕ)) → ArePast c xs → ArePast c ys → ArePast c (xs ++ ys)
past_append c [] ys p q = q
past_append c (x ∷ xs) ys p q = (p.0, past_append c xs ys p.1 q)

-- an element that was replaced
pub replaced : {A : Type 0} (l : List A) (i : ℕ) (a b : A) → get_elem? l i ≡ some b → get_elem? (set l i a) i ≡ some a
replaced [] i a b e = absurd (some-ne-none b (sym e))
replaced (x ∷ xs) zero a b e = refl
replaced (x ∷ xs) (suc i) a b e = replaced xs i a b e

-- all slots but s stay as they were, and no counter falls
pub record OnlyAt {S : Type 0} (slots s : ℕ) (t t' : Slots S) : Type 0 where
  pub same : (x : ℕ) → x < slots → x ≢ s → (t'.bit x ≡ t.bit x) × (t'.count x ≡ t.count x) × (t'.cell x ≡ t.cell x)
  pub grows : (x : ℕ) → t.count x ≤ t'.count x

module _ {J : Type 0} (code : J → Gv) (slots last : ℕ) where
  pub holds_same : (r : Role) (t t' : Slots (Option J)) (slot number : ℕ) (job : Option JobCode) → (HasSlot r slot slot → (t'.count slot ≡ t.count slot) × (t'.cell slot ≡ t.cell slot)) → t.count slot ≤ t'.count slot
      → HoldsAs code r last t slot number job → HoldsAs code r last t' slot number job
  holds_same Splitter t t' slot number job same grows h = tt
  holds_same Free t t' slot number job same grows h = tt
  holds_same Won t t' slot number job same grows h = let e = same refl in (let c = e.0 in let a = h.0 in omega arith, e.1 ∙ h.1)
  holds_same Held t t' slot number job same grows h = let e = same refl in (e.0 ∙ h.0, h.1, (h.2.0, e.1 ∙ h.2.1, h.2.2))
  holds_same Open t t' slot number job same grows h = let e = same refl in (e.0 ∙ h.0, h.1, e.1 ∙ h.2)
  holds_same Given t t' slot number job same grows h = omega arith
  holds_same Spent t t' slot number job same grows h = tt

  module _ (t t' : Slots (Option J)) (views : List View) (id s : ℕ) (v w : View) (o : mathlib.Core.Option.Option ℕ) (k : Tagged code slots last t views) (at : get_elem? views id ≡ some v) (only : OnlyAt slots s t t')
      (mine : s < slots → (k.owner s ≡ none) ⊎ (k.owner s ≡ some id)) (has : (x : ℕ) → HasSlot v.role v.slot x → x ≡ s) (stands : s < slots → Stands last t' (set views id w) s o)
      (gets : (x : ℕ) → HasSlot w.role w.slot x → (x ≡ s) × (s < slots) × (o ≡ some id)) (limit : KnowsLast w.role w.last last) (holds : HoldsAs code w.role last t' w.slot w.number w.job) (past : ArePast t'.count w.given) where
    abbrev owner : ℕ → mathlib.Core.Option.Option ℕ
    owner x = cond (x == s) o (k.owner x)

    owner_here : (x : ℕ) → x ≡ s → owner x ≡ o
    owner_here x e = rw (eq-eqb x s e) refl

    owner_else : (x : ℕ) → x ≢ s → owner x ≡ k.owner x
    owner_else x n = rw (ne_eqb x s n) refl

    stands_else : (x : ℕ) → x < slots → x ≢ s → (q : mathlib.Core.Option.Option ℕ) → Stands last t views x q → Stands last t' (set views id w) x q
    stands_else x lt n none h =
        let e = only.same x lt n in
        (e.2 ∙ h.0, ⊎_elim (λ (a : (t.bit x ≡ 0) × (t.count x < last)). inl (e.0 ∙ a.0, let b = a.1 in let c = e.1 in omega arith)) (λ (a : (t.bit x ≡ 1) × (t.count x ≡ last)). inr (e.0 ∙ a.0, e.1 ∙ a.1)) h.1)
    stands_else x lt n (some i) h =
        let e = only.same x lt n in (
          e.0 ∙ h.0,
          dite (ℕ_discrete i id)
              (λ (q : i ≡ id).
              let same : h.1.0 ≡ v = some-injective h.1.0 v (sym h.1.1 ∙ ap (get_elem? views) q ∙ at) in
              absurd (n (has x (subst (λ (u : View). HasSlot u.role u.slot x) same h.1.2))))
              (λ (q : i ≢ id). (h.1.0, set_else views id i w q ∙ h.1.1, h.1.2)),
        )

    not_mine : (i : ℕ) (x : ℕ) → i ≢ id → x < slots → k.owner x ≡ some i → x ≢ s
    not_mine i x n lt e q =
        let e' : k.owner s ≡ some i = ap k.owner (sym q) ∙ e in
        ⊎_elim (λ (a : k.owner s ≡ none). some-ne-none i (sym e' ∙ a)) (λ (a : k.owner s ≡ some id). n (some-injective i id (sym e' ∙ a))) (mine (omega arith))

    knows : Knows code slots last t' owner id w
    knows = record {
      owns = λ x h. let g = gets x h in (let a = g.0 in let b = g.1 in omega arith, owner_here x g.0 ∙ g.2);
      limit = limit;
      holds = holds;
      past = past;
    }

    knows_else : (i : ℕ) (u : View) → i ≢ id → Knows code slots last t (λ x. k.owner x) i u → Knows code slots last t' owner i u
    knows_else i u n old = record {
      owns = λ x h. let p = old.owns x h in (p.0, owner_else x (not_mine i x n p.0 p.1) ∙ p.1);
      limit = old.limit;
      holds = holds_same u.role t t' u.slot u.number u.job
          (λ (h : HasSlot u.role u.slot u.slot). let p = old.owns u.slot h in let e = only.same u.slot p.0 (not_mine i u.slot n p.0 p.1) in (e.1, e.2))
          (only.grows u.slot) old.holds;
      past = past_grows t.count t'.count u.given only.grows old.past;
    }

    pub moved : Tagged code slots last t' (set views id w)
    moved = record {
      owner = owner;
      slot = λ x lt. dite (ℕ_discrete x s)
          (λ (e : x ≡ s). subst (λ q. Stands last t' (set views id w) x q) (sym (owner_here x e)) (subst (λ y. Stands last t' (set views id w) y o) (sym e) (stands (omega arith))))
          (λ (n : x ≢ s). subst (λ q. Stands last t' (set views id w) x q) (sym (owner_else x n)) (stands_else x lt n (k.owner x) (k.slot x lt)));
      seat = λ i u there. ⊎_elim
          (λ (a : (i ≡ id) × (w ≡ u)). subst (λ j. Knows code slots last t' owner j u) (sym a.0) (subst (λ z. Knows code slots last t' owner id z) a.1 knows))
          (λ (a : (i ≢ id) × (get_elem? views i ≡ some u)). knows_else i u a.0 (k.seat i u a.1))
          (at_set views id i w u there);
    }

  -- a step of a seat that has no slot, neither before nor after
  pub still : (t t' : Slots (Option J)) (views : List View) (id : ℕ) (v w : View) → Tagged code slots last t views → get_elem? views id ≡ some v → OnlyAt slots slots t t'
      → ((x : ℕ) → HasSlot v.role v.slot x → ⊥) → ((x : ℕ) → HasSlot w.role w.slot x → ⊥) → KnowsLast w.role w.last last → HoldsAs code w.role last t' w.slot w.number w.job → ArePast t'.count w.given
      → Tagged code slots last t' (set views id w)
  still t t' views id v w k at only bare bare' = moved t t' views id slots v w none k at only (λ lt. absurd (omega arith)) (λ x h. absurd (bare x h)) (λ lt. absurd (omega arith)) (λ x h. absurd (bare' x h))

  -- a new seat that has no slot
  pub added : (t : Slots (Option J)) (views : List View) (w : View) → Tagged code slots last t views → ((x : ℕ) → HasSlot w.role w.slot x → ⊥)
      → KnowsLast w.role w.last last → HoldsAs code w.role last t w.slot w.number w.job → ArePast t.count w.given → Tagged code slots last t (views ++ w ∷ [])
  added t views w k bare limit holds past = record {
    owner = λ x. k.owner x;
    slot = λ x lt. longer x (k.owner x) (k.slot x lt);
    seat = λ i u there. ⊎_elim
        (λ (a : get_elem? views i ≡ some u). k.seat i u a)
        (λ (a : w ≡ u). subst (λ z. Knows code slots last t (λ x. k.owner x) i z) a record { owns = λ x h. absurd (bare x h); limit = limit; holds = holds; past = past })
        (at_snoc views w u i there);
  }
    where
      longer : (x : ℕ) (q : mathlib.Core.Option.Option ℕ) → Stands last t views x q → Stands last t (views ++ w ∷ []) x q
      longer x none h = h
      longer x (some i) h = (h.0, (h.1.0, at_longer views (w ∷ []) i h.1.0 h.1.1, h.1.2))
