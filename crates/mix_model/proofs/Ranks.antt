-- Buses without a cycle have a rank: a number for each node, which each attached bus raises, and which is at most the number of buses.
use Rattle.std.proofs.Common.{◌≡◌, ℕ, suc, ◌<◌, ◌≤◌, Bool, true, false, List, [], ◌∷◌, length, Option, Some, None, inl, inr, refl, ◌∙◌, ap, cond, arith}
use Rattle.std.specs.Prelude.{Contains, filter}
use Rattle.std.proofs.lemmas.Bool.{false≢true}
use Rattle.scene_model.specs.declared.bus.Bus.{Bus}
use Rattle.scene_model.specs.Reach.{Leads, HasNoCycle, reaches, target_passes}
use Rattle.mix_model.specs.Depths.{Rises}
use Rattle.scene_model.proofs.Reachable.{reaches_itself, reaches_next, reaches_on, reaches_is, Contains_cases}

pub record Ranked (buses : List Bus) (rank : ℕ → ℕ) : Type 0 where
  pub bounded : (n : ℕ) → rank n ≤ length buses
  pub rises : (b : Bus) → Contains buses b → Rises rank b

-- ---- counting by a test

filter-at_most : {X : Type 0} (p : X → Bool) (xs : List X) → length (filter p xs) ≤ length xs
filter-at_most p [] = omega arith
filter-at_most p (x ∷ xs) = by_test (p x) (filter-at_most p xs)
  where
    by_test : (t : Bool) → length (filter p xs) ≤ length xs → length (cond t (x ∷ filter p xs) (filter p xs)) ≤ suc (length xs)
    by_test true le = omega arith
    by_test false le = omega arith

cond_counts : {X : Type 0} (s t : Bool) (x : X) (xs ys : List X) → (s ≡ true → t ≡ true) → length xs ≤ length ys → length (cond s (x ∷ xs) xs) ≤ length (cond t (x ∷ ys) ys)
cond_counts true true x xs ys is le = omega arith
cond_counts true false x xs ys is le = absurd (false≢true (is refl))
cond_counts false true x xs ys is le = omega arith
cond_counts false false x xs ys is le = le

filter-weaker : {X : Type 0} (p q : X → Bool) (xs : List X) → ((x : X) → p x ≡ true → q x ≡ true) → length (filter p xs) ≤ length (filter q xs)
filter-weaker p q [] weaker = omega arith
filter-weaker p q (x ∷ xs) weaker = cond_counts (p x) (q x) x (filter p xs) (filter q xs) (weaker x) (filter-weaker p q xs weaker)

cond_counts_more : {X : Type 0} (s t : Bool) (x : X) (xs ys : List X) → (s ≡ true → t ≡ true) → length xs < length ys → length (cond s (x ∷ xs) xs) < length (cond t (x ∷ ys) ys)
cond_counts_more true true x xs ys is lt = omega arith
cond_counts_more true false x xs ys is lt = absurd (false≢true (is refl))
cond_counts_more false true x xs ys is lt = omega arith
cond_counts_more false false x xs ys is lt = lt

here_counts : {X : Type 0} (s t : Bool) (x : X) (xs ys : List X) → s ≡ false → t ≡ true → length xs ≤ length ys → length (cond s (x ∷ xs) xs) < length (cond t (x ∷ ys) ys)
here_counts s t x xs ys e f le = rw (e, f) (omega arith)

filter-fewer : {X : Type 0} (p q : X → Bool) (xs : List X) (y : X) → ((x : X) → p x ≡ true → q x ≡ true) → Contains xs y → p y ≡ false → q y ≡ true → length (filter p xs) < length (filter q xs)
filter-fewer p q [] y weaker (k, h, _) e f = absurd (omega arith)
filter-fewer p q (x ∷ xs) y weaker among e f =
    elim (Contains_cases x xs y among) [
      | inl same ↦ here_counts (p x) (q x) x (filter p xs) (filter q xs) (ap p same ∙ e) (ap q same ∙ f) (filter-weaker p q xs weaker)
      | inr later ↦ cond_counts_more (p x) (q x) x (filter p xs) (filter q xs) (weaker x) (filter-fewer p q xs y weaker later e f)
    ]

-- ---- the rank of a node: how many buses it can be reached from

comes_from : List Bus → ℕ → Bus → Bool
comes_from buses n b = target_passes (λ next. reaches buses next n) b.to

rank_in : List Bus → ℕ → ℕ
rank_in buses n = length (filter (comes_from buses n) buses)

passes_later : (p q : ℕ → Bool) (o : Option ℕ) → ((n : ℕ) → p n ≡ true → q n ≡ true) → target_passes p o ≡ true → target_passes q o ≡ true
passes_later p q None later e = absurd (false≢true e)
passes_later p q (Some n) later e = later n e

not_true : (t : Bool) → (t ≡ true → ⊥) → t ≡ false
not_true true no_way = absurd (no_way refl)
not_true false no_way = refl

not_back : (buses : List Bus) → HasNoCycle buses → (b : Bus) (to : ℕ) → Contains buses b → b.to ≡ Some to → reaches buses to b.node ≡ true → ⊥
not_back buses none b to among e r =
    let way = (reaches_is buses to b.node).0 r in
    let step : Leads buses b.node b to = record { among = among; node_is = refl; to_is = e } in
    none b.node b way.0 (to, step, way.1)

pub ranked : (buses : List Bus) → HasNoCycle buses → (rank : ℕ → ℕ) × Ranked buses rank
unfolding comes_from rank_in
ranked buses none = (rank_in buses, record { bounded = λ n. filter-at_most (comes_from buses n) buses; rises = raised })
  where
    raised : (b : Bus) → Contains buses b → Rises (rank_in buses) b
    raised b among to e =
        filter-fewer (comes_from buses b.node) (comes_from buses to) buses b
        (λ x. passes_later (λ next. reaches buses next b.node) (λ next. reaches buses next to) x.to (λ n r. reaches_on buses n b.node to r (reaches_next buses b to among e)))
        among
        (rw e (not_true (reaches buses to b.node) (not_back buses none b to among e)))
        (rw e (reaches_itself buses to))
