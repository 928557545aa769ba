-- A buffer that is filled from its front.
use Rattle.std.proofs.Common.{◌≡◌, ℕ, ◌+◌, ◌<◌, List, [], ◌∷◌, ◌++◌, length, map, take, set, All, sym, ◌∙◌, ap, add-one, arith, ℤ, suc, zero}
use Rattle.std.specs.List.{range_with_len}
use Rattle.std.proofs.Math.Seq.{take-suc-set}
use Rattle.std.proofs.lemmas.List.Elements.{All-append}
use Rattle.std.proofs.lemmas.List.FromFn.{map-range_with_len_more}
use Rattle.mix_fixed.specs.Sound.{Is24}

front : (out : List ℤ) (i : ℕ) (x : ℤ) → i < length out → take (i + 1) (set out i x) ≡ take i out ++ x ∷ []
front out i x inside = rw add-one (take-suc-set out i x inside)

only : (x : ℤ) → Is24 x → All Is24 (x ∷ [])
only x is zero d inside = is
only x is (suc k) d inside = absurd (omega arith)

-- one more sample is written
pub filled_more : (f : ℕ → ℤ) (i : ℕ) (out : List ℤ) (x : ℤ) → i < length out → x ≡ f i → Is24 x
    → take i out ≡ map f (range_with_len 0 i) → All Is24 (take i out)
    → (take (i + 1) (set out i x) ≡ map f (range_with_len 0 (i + 1))) × All Is24 (take (i + 1) (set out i x))
filled_more f i out x inside is in_range before in_ranges =
    let more = map-range_with_len_more f 0 i i (omega arith) in
    rw (front out i x inside) (
      ap (λ xs. xs ++ x ∷ []) before ∙ ap (λ y. map f (range_with_len 0 i) ++ y ∷ []) is ∙ sym more,
      All-append Is24 (take i out) (x ∷ []) in_ranges (only x in_range),
    )
