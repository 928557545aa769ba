-- The cell of a tag's slot goes out to the tag's seat, and comes home.
use Rattle.std.proofs.Common.{◌≡◌, ℕ, ◌*◌, ◌<◌, [], ◌∷◌, set, refl, sym, ◌∙◌, subst, subst₂, inr, arith, Option, length-set}
use Rattle.std.specs.Prelude.{slice_index}
use mathlib.Core.Option.{some, none}
use lib.ListN.{get_elem?}
use base.Stored.{Gv}
use Rattle.atomic_table.specs.Table.{State, Me, step, Allows, takes, gives}
use Rattle.atomic_table.proofs.Lists.{set_else, set_here}
use Rattle.slot_tags.specs.declared.view.Role.{Role}
use Rattle.slot_tags.specs.declared.view.Role.TheVariants.{Held, Open}
use Rattle.slot_tags.specs.declared.view.Sizes.{Sizes}
use Rattle.slot_tags.specs.declared.view.View.{View}
use Rattle.slot_tags.specs.Rule.{Slots, slots_of, HasSlot, KnowsLast, HoldsAs, Kept, code_of, Lies}
use Rattle.slot_tags.specs.Steps.{opened, closed, OpenedCell, ClosedCell}
use Rattle.slot_tags.proofs.Frame.{moved, replaced}
use Rattle.slot_tags.proofs.Facts.{has_as, limit_as, holds_as, is_set, loaded}

module _ {J : Type 0} (code : J → Gv) (k : Sizes) (id : ℕ) (v w : View) (s : State (Option J) View) (h : Kept code k s) (at : get_elem? s.views id ≡ some v) where
  abbrev slots : ℕ
  slots = 32 * k.groups

  abbrev t : Slots (Option J)
  t = slots_of k.groups s.words s.homes

  abbrev after : mathlib.Core.Option.Option (Option J) → Slots (Option J)
  after x = slots_of k.groups s.words (set s.homes v.slot x)

  -- only the cell of the view's slot changes, and the view keeps its slot
  cell_moves : (r q : Role) (x : mathlib.Core.Option.Option (Option J)) → v.role ≡ r → ((y z : ℕ) → HasSlot r y z → y ≡ z) → ((y : ℕ) → HasSlot r y y) → ((y a b : ℕ) → KnowsLast r a b → a ≡ b)
      → (w.slot ≡ v.slot) × (w.last ≡ v.last) × (w.given ≡ v.given) → w.role ≡ q → ((y z : ℕ) → HasSlot q y z → y ≡ z) → ((y : ℕ) → HasSlot q y y) → ((a b : ℕ) → a ≡ b → KnowsLast q a b)
      → ((v.slot < slots) → HoldsAs code q k.last (after x) v.slot w.number w.job) → (i : ℕ)
      → Kept code k record { words = set s.words i (slice_index s.words i); homes = set s.homes v.slot x; views = set s.views id w }
  cell_moves r q x role only own last same role' only' own' last' holds i =
      let old = h.tagged.seat id v at in
      let mine = old.owns v.slot (subst (λ z. HasSlot z v.slot v.slot) (sym role) (own v.slot)) in
      loaded code k s.words (set s.homes v.slot x) (set s.views id w) i record {
        words = h.words;
        homes = length-set s.homes v.slot x ∙ h.homes;
        bound = h.bound;
        tagged = moved code slots k.last t (after x) s.views id v.slot v w (some id) h.tagged at
            record { same = λ y lt apart. (refl, refl, set_else s.homes v.slot y x apart); grows = λ y. omega arith }
            (λ lt. inr mine.1) (λ y has. sym (only v.slot y (has_as v.role r v.slot y role has)))
            (λ lt. (
              is_set k.last t s.views v.slot id (h.tagged.owner v.slot) (h.tagged.slot v.slot lt) mine.1,
              (w, replaced s.views id w v at, subst₂ (λ z y. HasSlot z y v.slot) (sym role') (sym same.0) (own' v.slot)),
            ))
            (λ y has. (sym (sym same.0 ∙ only' w.slot y (has_as w.role q w.slot y role' has)), mine.0, refl))
            (subst (λ z. KnowsLast z w.last k.last) (sym role') (last' w.last k.last (same.1 ∙ last v.slot v.last k.last (limit_as v.role r v.last k.last role old.limit))))
            (subst₂ (λ z y. HoldsAs code z k.last (after x) y w.number w.job) (sym role') (sym same.0) (holds mine.0))
            (subst (λ g. Rattle.slot_tags.specs.Rule.ArePast (after x).count g) (sym same.2) old.past);
      }

module _ {J : Type 0} (code : J → Gv) (k : Sizes) (id i : ℕ) where
  pub opens_cell : (me : Me (Option J) View) → me.0.role ≡ Held → Allows (Kept code k) (32 * k.groups) id me i (λ n. n) (OpenedCell code (step (32 * k.groups) i 0 0 none) me)
  opens_cell me role s h size at fits =
      let v : View = me.0 in
      let holds = holds_as code v.role Held k.last (slots_of k.groups s.words s.homes) v.slot v.number v.job role (h.tagged.seat id v at).holds in (
        opened v,
        takes v.slot holds.2.0,
        holds.2.1,
        cell_moves code k id v (opened v) s h at Held Open none role (λ y z e. e) (λ y. refl) (λ y a b e. e) (refl, refl, refl) refl (λ y z e. e) (λ y. refl) (λ a b e. e)
            (λ lt. (holds.0, holds.1, set_here s.homes v.slot none (let z = h.homes in omega arith))) i,
        (holds.2.0, holds.2.2, refl),
      )

  closes : (v : View) (slot : ℕ) (x : Option J) → v.role ≡ Open → v.slot ≡ slot → Allows (Kept code k) (32 * k.groups) id (v, (slot, x) ∷ []) i (λ n. n) (ClosedCell code (step (32 * k.groups) i 0 0 none) (v, (slot, x) ∷ []))
  closes v slot x role same s h size at fits =
      let holds = holds_as code v.role Open k.last (slots_of k.groups s.words s.homes) v.slot v.number v.job role (h.tagged.seat id v at).holds in (
        closed (code_of code x) v,
        gives,
        tt,
        subst (λ y. Kept code k record { words = set s.words i (slice_index s.words i); homes = set s.homes y (some x); views = set s.views id (closed (code_of code x) v) }) same
            (cell_moves code k id v (closed (code_of code x) v) s h at Open Held (some x) role (λ y z e. e) (λ y. refl) (λ y a b e. e) (refl, refl, refl) refl (λ y z e. e) (λ y. refl) (λ a b e. e)
            (λ lt. (holds.0, holds.1, (x, set_here s.homes v.slot (some x) (let z = h.homes in omega arith), refl))) i),
        refl,
      )

  pub closes_cell : (me : Me (Option J) View) (slot : ℕ) (x : Option J) → me.0.role ≡ Open → me.0.slot ≡ slot → me.1 ≡ (slot, x) ∷ [] → Allows (Kept code k) (32 * k.groups) id me i (λ n. n) (ClosedCell code (step (32 * k.groups) i 0 0 none) me)
  closes_cell me slot x role same out = subst (λ c. Allows (Kept code k) (32 * k.groups) id (me.0, c) i (λ n. n) (ClosedCell code (step (32 * k.groups) i 0 0 none) (me.0, c))) (sym out) (closes me.0 slot x role same)

module _ {J : Type 0} (code : J → Gv) (key k : Sizes) (cells : ℕ) (about : key ≡ k) (many : cells ≡ 32 * k.groups) (id i : ℕ) (me : Me (Option J) View) where
  pub opens_cell_as : me.0.role ≡ Held → Allows (Kept code key) cells id me i (λ n. n) (OpenedCell code (step cells i 0 0 none) me)
  opens_cell_as role = subst₂ (λ a b. Allows (Kept code a) b id me i (λ n. n) (OpenedCell code (step b i 0 0 none) me)) (sym about) (sym many) (opens_cell code k id i me role)

  pub closes_cell_as : (slot : ℕ) (x : Option J) → me.0.role ≡ Open → me.0.slot ≡ slot → me.1 ≡ (slot, x) ∷ [] → Allows (Kept code key) cells id me i (λ n. n) (ClosedCell code (step cells i 0 0 none) me)
  closes_cell_as slot x role same out = subst₂ (λ a b. Allows (Kept code a) b id me i (λ n. n) (ClosedCell code (step b i 0 0 none) me)) (sym about) (sym many) (closes_cell code k id i me slot x role same out)
