-- Places of elements in a list, and in what a test keeps of it.
use Rattle.std.proofs.Common.{◌≡◌, ℕ, zero, suc, ◌<◌, cond, ◌==◌, Bool, true, false, true≢false, List, [], ◌∷◌, map, length, take, refl, sym, ap, ◌∙◌, subst, arith}
use Rattle.std.proofs.lemmas.Bool.{ne_eqb}
use Rattle.std.specs.List.{filter}
use mathlib.Core.Option.{some, some-injective, some-ne-none}
use mathlib.Core.Logic.{dite}
use native.Mathlib.Decide.{ℕ_discrete}
use lib.ListN.{get_elem?}

pub one_number : (a b : ℕ) → (a == b) ≡ true → a ≡ b
one_number a b same = dite (ℕ_discrete a b) (λ (e : a ≡ b). e) (λ ne. absurd (true≢false (sym same ∙ ne_eqb a b ne)))

module _ {A : Type 0} where
  -- a list has an element at each number below its length
  pub there : (l : List A) (i : ℕ) → i < length l → (a : A) × (get_elem? l i ≡ some a)
  there [] i lt = absurd (omega arith)
  there (x ∷ xs) zero lt = (x, refl)
  there (x ∷ xs) (suc i) lt = there xs i (omega arith)

  -- what a map has at a number is made of what the list has there
  pub from_map : {B : Type 0} (f : A → B) (l : List A) (i : ℕ) (b : B) → get_elem? (map f l) i ≡ some b → (a : A) × (get_elem? l i ≡ some a) × (f a ≡ b)
  from_map f [] i b e = absurd (some-ne-none b (sym e))
  from_map f (x ∷ xs) zero b e = (x, refl, some-injective (f x) b e)
  from_map f (x ∷ xs) (suc i) b e = from_map f xs i b e

module _ {A : Type 0} (test : A → Bool) where
  step : (x : A) (xs : List A) (b : Bool) → test x ≡ b → filter test (x ∷ xs) ≡ cond b (x ∷ filter test xs) (filter test xs)
  step x xs b e = ap (λ c. cond c (x ∷ filter test xs) (filter test xs)) e

  -- the place in the list of what the test keeps as its a-th: it keeps a elements before that
  pub record KeptAt (l : List A) (a : ℕ) (x : A) : Type 0 where
    pub place : ℕ
    pub at : get_elem? l place ≡ some x
    pub passes : test x ≡ true
    pub before : length (filter test (take place l)) ≡ a

  pub kept_at : (l : List A) (a : ℕ) (x : A) → get_elem? (filter test l) a ≡ some x → KeptAt l a x
  kept_at [] a x at = absurd (some-ne-none x (sym at))
  kept_at (y ∷ ys) a x at = by (λ a q. kept_at ys a x q) (test y) refl a (subst (λ l. get_elem? l a ≡ some x) (step y ys (test y) refl) at)
    where
      by : ((a : ℕ) → get_elem? (filter test ys) a ≡ some x → KeptAt ys a x) → (b : Bool) → test y ≡ b → (a : ℕ) → get_elem? (cond b (y ∷ filter test ys) (filter test ys)) a ≡ some x → KeptAt (y ∷ ys) a x
      by more true e zero q = record { place = 0; at = q; passes = ap test (sym (some-injective y x q)) ∙ e; before = refl }
      by more true e (suc a) q = let k = more a q in record { place = suc k.place; at = k.at; passes = k.passes; before = ap length (step y (take k.place ys) true e) ∙ ap suc k.before }
      by more false e a q = let k = more a q in record { place = suc k.place; at = k.at; passes = k.passes; before = ap length (step y (take k.place ys) false e) ∙ k.before }

  -- an element that passes is kept
  pub is_kept : (l : List A) (n : ℕ) (x : A) → get_elem? l n ≡ some x → test x ≡ true → get_elem? (filter test l) (length (filter test (take n l))) ≡ some x
  is_kept [] n x at passes = absurd (some-ne-none x (sym at))
  is_kept (y ∷ ys) zero x at passes = ap (λ l. get_elem? l 0) (step y ys true (ap test (some-injective y x at) ∙ passes)) ∙ at
  is_kept (y ∷ ys) (suc n) x at passes = by (is_kept ys n x at passes) (test y) refl
    where
      by : get_elem? (filter test ys) (length (filter test (take n ys))) ≡ some x → (b : Bool) → test y ≡ b → get_elem? (filter test (y ∷ ys)) (length (filter test (take (suc n) (y ∷ ys)))) ≡ some x
      by kept true e = (λ k. get_elem? (step y ys true e k) (length (step y (take n ys) true e k))) ∙ kept
      by kept false e = (λ k. get_elem? (step y ys false e k) (length (step y (take n ys) false e k))) ∙ kept

  -- more is kept before a later place
  pub later_kept : (l : List A) (n m : ℕ) (x : A) → get_elem? l n ≡ some x → test x ≡ true → n < m → length (filter test (take n l)) < length (filter test (take m l))
  later_kept [] n m x at passes less = absurd (some-ne-none x (sym at))
  later_kept (y ∷ ys) n zero x at passes less = absurd (omega arith)
  later_kept (y ∷ ys) zero (suc m) x at passes less = let e = ap length (step y (take m ys) true (ap test (some-injective y x at) ∙ passes)) in omega arith
  later_kept (y ∷ ys) (suc n) (suc m) x at passes less = by (later_kept ys n m x at passes (omega arith)) (test y) refl
    where
      by : length (filter test (take n ys)) < length (filter test (take m ys)) → (b : Bool) → test y ≡ b → length (filter test (take (suc n) (y ∷ ys))) < length (filter test (take (suc m) (y ∷ ys)))
      by less' true e =
          let low = ap length (step y (take n ys) true e) in
          let high = ap length (step y (take m ys) true e) in
          omega arith
      by less' false e =
          let low = ap length (step y (take n ys) false e) in
          let high = ap length (step y (take m ys) false e) in
          omega arith
