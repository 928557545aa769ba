-- Which pages are in a list.
use Rattle.std.proofs.Common.{◌≡◌, ◌≢◌, ◌⊎◌, ℕ, Bool, true, false, List, ◌∷◌, refl, sym, ◌∙◌, inl, inr, true≢false}
use Rattle.std.proofs.lemmas.Bool.{eq-eqb, ne_eqb}
use mathlib.Core.Logic.{dite}
use native.Mathlib.Decide.{ℕ_discrete}
use Rattle.exec_reel.specs.Rule.{is_among, IsAmong}

pub among_here : (j x : ℕ) (xs : List ℕ) → x ≡ j → IsAmong j (x ∷ xs)
among_here j x xs e = rw (eq-eqb x j e) refl

pub among_else : (j x : ℕ) (xs : List ℕ) → x ≢ j → is_among j (x ∷ xs) ≡ is_among j xs
among_else j x xs n = rw (ne_eqb x j n) refl

pub among_there : (j x : ℕ) (xs : List ℕ) → IsAmong j xs → IsAmong j (x ∷ xs)
among_there j x xs m = dite (ℕ_discrete x j) (λ (e : x ≡ j). among_here j x xs e) (λ (n : x ≢ j). among_else j x xs n ∙ m)

pub among_first : (j x : ℕ) (xs : List ℕ) → IsAmong j (x ∷ xs) → (x ≡ j) ⊎ IsAmong j xs
among_first j x xs m = dite (ℕ_discrete x j) (λ (e : x ≡ j). inl e) (λ (n : x ≢ j). inr (sym (among_else j x xs n) ∙ m))

pub not_among : (b : Bool) → b ≡ false → b ≡ true → ⊥
not_among b e m = true≢false (sym m ∙ e)

pub none_among : false ≡ true → ⊥
none_among e = true≢false (sym e)
