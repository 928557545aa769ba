-- A badge whose view shows something has one view.
use Rattle.std.proofs.Common.{◌≡◌, ℕ, Bool, true, List, [], ◌∷◌, map, refl, sym, true≢false}
use Rattle.slot_tags.specs.declared.view.Role.{Role}
use Rattle.slot_tags.specs.declared.view.Role.TheVariants.{Splitter, Free, Won, Held, Open, Given, Spent}
use Rattle.slot_tags.specs.declared.view.View.{View}
use Rattle.slot_tags.specs.Shown.{is_held, shown, view_of}

pub one_view : (vs : List View) (x : Bool × ℕ × ℕ × Bool) → map shown vs ≡ x ∷ [] → vs ≡ view_of vs ∷ []
one_view [] x e = absurd (cc)
one_view (v ∷ []) x e = refl
one_view (v ∷ u ∷ us) x e = absurd (cc)

pub shows : (vs : List View) (x : Bool × ℕ × ℕ × Bool) → map shown vs ≡ x ∷ [] → shown (view_of vs) ≡ x
shows [] x e = absurd (cc)
shows (v ∷ []) x e = cc
shows (v ∷ u ∷ us) x e = absurd (cc)

pub role_held : (r : Role) → is_held r ≡ true → r ≡ Held
role_held Splitter e = absurd (true≢false (sym e))
role_held Free e = absurd (true≢false (sym e))
role_held Won e = absurd (true≢false (sym e))
role_held Held e = refl
role_held Open e = absurd (true≢false (sym e))
role_held Given e = absurd (true≢false (sym e))
role_held Spent e = absurd (true≢false (sym e))
