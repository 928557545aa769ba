-- Sums of a number for each element of a list.
use Rattle.std.proofs.Common.{◌≡◌, ℕ, zero, suc, ◌+◌, ◌<◌, ℤ, pos, negsuc, ◌+ℤ◌, List, [], ◌∷◌, ◌++◌, length, get_or, take, refl, ap, arith}
use Rattle.std.specs.Prelude.{Contains, sum_by}
use Rattle.std.specs.List.Sorted.{IsPermutation}
use Rattle.std.proofs.lemmas.Int.{ints}
use Rattle.std.proofs.lemmas.List.Sorted.{sum_by-IsPermutation}
use Rattle.std.proofs.lemmas.List.Sums.{sum_by-cons}
use Rattle.scene_model.proofs.Reachable.{Contains_first, Contains_later}
use Rattle.mix_model.specs.Signals.{total}

pub total_same : {X : Type 0} (f g : X → ℤ) (xs : List X) → ((x : X) → Contains xs x → f x ≡ g x) → total f xs ≡ total g xs
total_same f g [] same = refl
total_same f g (x ∷ xs) same =
    let here = same x (Contains_first x xs) in
    let rest = total_same f g xs (λ y among. same y (Contains_later x xs y among)) in
    cc

pub total-append : {X : Type 0} (f : X → ℤ) (xs ys : List X) → total f (xs ++ ys) ≡ total f xs +ℤ total f ys
total-append f [] ys = omega (arith, ints)
total-append f (x ∷ xs) ys = let rest = total-append f xs ys in omega (arith, ints)

-- one more element, as at a step of a loop
pub total_more : {X : Type 0} (f : X → ℤ) (xs : List X) (i : ℕ) (d : X) → i < length xs → total f (take (i + 1) xs) ≡ total f (take i xs) +ℤ f (get_or xs i d)
total_more f [] i d h = absurd (omega arith)
total_more f (x ∷ xs) zero d h = omega (arith, ints)
total_more f (x ∷ xs) (suc i) d h =
    let e : suc i + 1 ≡ suc (i + 1) = omega arith in
    let rest = total_more f xs i d (omega arith) in
    rw e (omega (arith, ints))

pub total_none : {X : Type 0} (f : X → ℤ) (xs : List X) → ((k : ℕ) (d : X) → k < length xs → f (get_or xs k d) ≡ pos 0) → total f xs ≡ pos 0
total_none f [] none = refl
total_none f (x ∷ xs) none =
    let here : f x ≡ pos 0 = none 0 x (omega arith) in
    let rest = total_none f xs (λ k d h. none (suc k) d (omega arith)) in
    omega (arith, ints)

-- the part of a number above 0, and that below
above : ℤ → ℕ
above (pos n) = n
above (negsuc n) = 0

below : ℤ → ℕ
below (pos n) = 0
below (negsuc n) = suc n

parted : (x : ℤ) → x +ℤ pos (below x) ≡ pos (above x)
unfolding above below
parted (pos n) = omega (arith, ints)
parted (negsuc n) = omega (arith, ints)

total-parted : {X : Type 0} (f : X → ℤ) (xs : List X) → total f xs +ℤ pos (sum_by (λ x. below (f x)) xs) ≡ pos (sum_by (λ x. above (f x)) xs)
total-parted f [] = refl
total-parted f (x ∷ xs) =
    let rest = total-parted f xs in
    let here = parted (f x) in
    let lows = sum_by-cons (λ y. below (f y)) x xs in
    let highs = sum_by-cons (λ y. above (f y)) x xs in
    rw (lows, highs) (omega (arith, ints))

-- the order makes no difference
pub total-IsPermutation : {X : Type 0} (f : X → ℤ) (xs ys : List X) → IsPermutation xs ys → total f xs ≡ total f ys
total-IsPermutation f xs ys moved =
    let first = total-parted f xs in
    let second = total-parted f ys in
    let lows = sum_by-IsPermutation (λ x. below (f x)) xs ys moved in
    let highs = sum_by-IsPermutation (λ x. above (f x)) xs ys moved in
    let same : pos (sum_by (λ x. above (f x)) ys) ≡ pos (sum_by (λ x. above (f x)) xs) = ap pos highs in
    let same' : pos (sum_by (λ x. below (f x)) ys) ≡ pos (sum_by (λ x. below (f x)) xs) = ap pos lows in
    omega (arith, ints)
