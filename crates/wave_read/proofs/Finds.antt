-- The first number of a range that passes a test.
use Rattle.std.proofs.Common.{◌≡◌, ℕ, zero, suc, ◌+◌, ◌<◌, ◌≤◌, Bool, true, false, cond, List, [], ◌∷◌, inl, inr, refl, sym, arith}
use Rattle.std.specs.Prelude.{Option, Some, None}
use Rattle.std.specs.List.{find, range_with_len}
use Rattle.std.specs.Option.{option_map, is_some}
use Rattle.std.proofs.lemmas.Bool.{cases_eq, false≢true}
use Rattle.std.proofs.lemmas.Option.{none-some, same_Some}

pub find_first : (p : ℕ → Bool) (n from k : ℕ) → from ≤ k → k < from + n → ((j : ℕ) → from ≤ j → j < k → p j ≡ false)
    → p k ≡ true → find p (range_with_len from n) ≡ Some k
find_first p zero from k low high before here = absurd (omega arith)
find_first p (suc n) from k low high before here = elim (cases_eq from k) [
  | inl same ↦ rw (same, here) refl
  | inr other ↦
      let first : p from ≡ false = before from (omega arith) (omega arith) in
      rw first (find_first p n (from + 1) k (omega arith) (omega arith) (λ j l h. before j (omega arith) h) here)
]

pub find_none : (p : ℕ → Bool) (n from : ℕ) → ((j : ℕ) → from ≤ j → j < from + n → p j ≡ false) → find p (range_with_len from n) ≡ None
find_none p zero from none = refl
find_none p (suc n) from none =
    let first : p from ≡ false = none from (omega arith) (omega arith) in
    rw first (find_none p n (from + 1) (λ j l h. none j (omega arith) (omega arith)))

cond_none : {A : Type 0} (b : Bool) (x : A) (o : Option A) → cond b (Some x) o ≡ None → (b ≡ false) × (o ≡ None)
cond_none true x o e = absurd (none-some x (sym e))
cond_none false x o e = (refl, e)

pub none_found : (p : ℕ → Bool) (n from : ℕ) → find p (range_with_len from n) ≡ None → (j : ℕ) → from ≤ j → j < from + n → p j ≡ false
none_found p zero from none j low high = absurd (omega arith)
none_found p (suc n) from none j low high =
    let parts = cond_none (p from) from (find p (range_with_len (from + 1) n)) none in
    elim (cases_eq from j) [
      | inl same ↦ rw (← same) parts.0
      | inr other ↦ none_found p n (from + 1) parts.1 j (omega arith) (omega arith)
    ]

pub found_passes : {A : Type 0} (p : A → Bool) (xs : List A) (x : A) → find p xs ≡ Some x → p x ≡ true
found_passes p [] x e = absurd (none-some x e)
found_passes p (y ∷ ys) x e = at_head (p y) refl e (found_passes p ys x)
  where
    at_head : (b : Bool) → p y ≡ b → cond b (Some y) (find p ys) ≡ Some x → (find p ys ≡ Some x → p x ≡ true) → p x ≡ true
    at_head true here h later = rw (← same_Some y x h) here
    at_head false here h later = later h

pub some_is : {A : Type 0} (o : Option A) → is_some o ≡ true → (x : A) × (o ≡ Some x)
some_is None e = absurd (false≢true e)
some_is (Some x) e = (x, refl)

pub none_is : {A : Type 0} (o : Option A) → is_some o ≡ false → o ≡ None
none_is None e = refl
none_is (Some x) e = absurd (false≢true (sym e))

pub mapped : {A B : Type 0} (f : A → B) (o : Option A) (y : B) → option_map f o ≡ Some y → (x : A) × (o ≡ Some x) × (f x ≡ y)
mapped f None y e = absurd (none-some y e)
mapped f (Some x) y e = (x, refl, same_Some (f x) y e)

pub map_none : {A B : Type 0} (f : A → B) (o : Option A) → option_map f o ≡ None → o ≡ None
map_none f None e = refl
map_none f (Some x) e = absurd (none-some (f x) (sym e))

pub map_some : {A B : Type 0} (f : A → B) (o : Option A) → is_some (option_map f o) ≡ is_some o
map_some f None = refl
map_some f (Some x) = refl
