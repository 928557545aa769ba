-- Samples that a rule makes of those at their places.
use Rattle.std.proofs.Common.{◌≡◌, ◌⊎◌, inl, inr, ℕ, ◌+◌, ◌*◌, ◌<◌, ◌≤◌, ◌∙◌, ℤ, pos, List, length, set, ap, refl, arith}
use Rattle.std.proofs.lemmas.Bool.{cases_lt}
use Rattle.std.proofs.lemmas.List.{get_or-set_same, get_or-set_other, length-set}
use Rattle.fx_nodes.specs.Samples.{MadeIn, sample}

pub none_made : (rule : ℕ → ℤ → ℤ) (i : ℕ) (xs : List ℤ) → MadeIn rule i i xs xs
none_made rule i xs = record {
  inside = λ k low below. absurd (omega (arith, low, below));
  outside = λ k _. refl;
}

pub one_made : (rule : ℕ → ℤ → ℤ) (i : ℕ) (xs : List ℤ) (v : ℤ) → i < length xs → v ≡ rule i (sample xs i) → MadeIn rule i (i + 1) xs (set xs i v)
one_made rule i xs v there is = record {
  inside = λ k low below.
      let here : k ≡ i = omega (arith, low, below) in
      rw here (get_or-set_same xs i v (pos 0) there ∙ is);
  outside = λ k away. get_or-set_other xs i k v (pos 0) (λ e. other k e away);
}
  where
    other : (k : ℕ) → k ≡ i → (k < i) ⊎ (i + 1 ≤ k) → ⊥
    other k e (inl low) = omega (arith, e, low)
    other k e (inr high) = omega (arith, e, high)

pub then_made : (rule : ℕ → ℤ → ℤ) (a b c : ℕ) (xs ys zs : List ℤ) → a ≤ b → b ≤ c → MadeIn rule a b xs ys → MadeIn rule b c ys zs → MadeIn rule a c xs zs
then_made rule a b c xs ys zs ab bc first second = record {
  inside = λ k low below. by_part k low below (cases_lt k b);
  outside = λ k away. around k away;
}
  where
    by_part : (k : ℕ) → a ≤ k → k < c → (k < b) ⊎ (b ≤ k) → sample zs k ≡ rule k (sample xs k)
    by_part k low below (inl front) = second.outside k (inl front) ∙ first.inside k low front
    by_part k low below (inr back) = second.inside k back below ∙ ap (rule k) (first.outside k (inr back))

    around : (k : ℕ) → (k < a) ⊎ (c ≤ k) → sample zs k ≡ sample xs k
    around k (inl low) = second.outside k (inl (omega (arith, low, ab))) ∙ first.outside k (inl low)
    around k (inr high) = second.outside k (inr high) ∙ first.outside k (inr (omega (arith, high, bc)))

-- two rules that are the same at these places
pub made_by : (rule rule' : ℕ → ℤ → ℤ) (a b : ℕ) (xs ys : List ℤ) → ((k : ℕ) → a ≤ k → k < b → (x : ℤ) → rule k x ≡ rule' k x) → MadeIn rule a b xs ys → MadeIn rule' a b xs ys
made_by rule rule' a b xs ys same made = record {
  inside = λ k low below. made.inside k low below ∙ same k low below (sample xs k);
  outside = made.outside;
}

-- a frame: the samples of its two channels, one after the other
pub frame_made : (rule : ℕ → ℤ → ℤ) (t : ℕ) (xs : List ℤ) (left right : ℤ) → 2 * t + 1 < length xs → left ≡ rule (2 * t) (sample xs (2 * t))
    → right ≡ rule (2 * t + 1) (sample (set xs (2 * t) left) (2 * t + 1)) → MadeIn rule (2 * t) (2 * (t + 1)) xs (set (set xs (2 * t) left) (2 * t + 1) right)
frame_made rule t xs left right there is_left is_right =
    let end : 2 * t + 1 + 1 ≡ 2 * (t + 1) = omega arith in
    let len : length (set xs (2 * t) left) ≡ length xs = length-set xs (2 * t) left in
    rw end at (
    then_made rule (2 * t) (2 * t + 1) (2 * t + 1 + 1) xs (set xs (2 * t) left) _ (omega arith) (omega arith)
    (one_made rule (2 * t) xs left (omega arith) is_left) (one_made rule (2 * t + 1) (set xs (2 * t) left) right (omega arith) is_right)
    )
