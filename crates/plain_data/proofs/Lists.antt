-- Lemmas on lists and options on which several crates stand.
use Rattle.std.specs.Prelude.{◌≡◌, ℕ, zero, suc, ◌+◌, ◌∷◌, ◌++◌, map, Option, None, Some, IfSome, refl}
use Rattle.std.specs.List.{range_with_len}
use Rattle.std.proofs.Common.{ap, subst, arith}

-- the values at m numbers, and then at the n numbers behind them
pub map_range-join : {A : Type 0} (f : ℕ → A) (a m n : ℕ) → map f (range_with_len a (m + n)) ≡ map f (range_with_len a m) ++ map f (range_with_len (a + m) n)
map_range-join f a zero n =
    let e : 0 + n ≡ n = omega arith in
    let k : a + 0 ≡ a = omega arith in
    rw (e, k) refl
map_range-join f a (suc m) n =
    let e : suc m + n ≡ suc (m + n) = omega arith in
    let k : a + 1 + m ≡ a + suc m = omega arith in
    rw (e, ← k) (ap (λ xs. f a ∷ xs) (map_range-join f (a + 1) m n))

-- what holds of the value, if there is one, makes another thing hold of it
pub IfSome-map : {A : Type 0} {P Q : A → Type 0} (o : Option A) → ((x : A) → P x → Q x) → IfSome o P → IfSome o Q
IfSome-map None f h = tt
IfSome-map (Some x) f h = f x h

-- what holds of the value of an option holds of the value that it is
pub IfSome-at : {A : Type 0} (P : A → Type 0) (o : Option A) (x : A) → o ≡ Some x → IfSome o P → P x
IfSome-at P o x is holds = subst (λ v. IfSome v P) is holds
