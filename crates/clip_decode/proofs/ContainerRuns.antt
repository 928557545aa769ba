-- One more container is decoded.
use Rattle.std.proofs.Common.{◌≡◌, ◌≢◌, ℕ, ◌+◌, ◌*◌, ◌<◌, List, length, take, drop, get_or, set, ℤ, pos, refl, arith, ap, ◌∙◌, below_more, get_or-set_same, get_or-set_other}
use Rattle.std.proofs.lemmas.List.{get_or-take, get_or-drop}
use Rattle.mix_fixed.specs.Sound.{Is24}
use Rattle.clip_decode.specs.Cells.{ContainersDecoded, Appended}

pub decoded_more : (value : List ℕ → ℤ) (size : ℕ) (bytes : List ℕ) (i from len : ℕ) (sample : ℤ) (cells : List ℤ)
    → ContainersDecoded value size bytes i cells → from ≡ size * i → len ≡ size → sample ≡ value (take len (drop from bytes))
    → Is24 sample
    → i < length cells → ContainersDecoded value size bytes (i + 1) (set cells i sample)
decoded_more value size bytes i from len sample cells done from_is len_is is range inside =
    let here : get_or (set cells i sample) i (pos 0) ≡ sample = get_or-set_same cells i sample (pos 0) inside in
    record {
      samples = below_more (λ k. get_or (set cells i sample) k (pos 0) ≡ value (take size (drop (size * k) bytes))) i
          (λ k lt. let other : k ≢ i = omega arith in get_or-set_other cells i k sample (pos 0) other ∙ done.samples k lt)
          (here ∙ is ∙ ap (λ p. value (take len (drop p bytes))) from_is ∙ ap (λ n. value (take n (drop (size * i) bytes))) len_is);
      range = below_more (λ k. Is24 (get_or (set cells i sample) k (pos 0))) i
          (λ k lt. let other : k ≢ i = omega arith in rw (get_or-set_other cells i k sample (pos 0) other) (done.range k lt))
          (rw here range);
    }

-- a container of one byte has the byte that stands there
pub first_byte : (bytes : List ℕ) (i : ℕ) → get_or (take 1 (drop i bytes)) 0 0 ≡ get_or bytes i 0
first_byte bytes i = get_or-take 1 (drop i bytes) 0 0 (omega arith) ∙ get_or-drop i bytes 0 0 ∙ ap (λ k. get_or bytes k 0) (omega arith)

pub appended_none : (at : ℕ) (sample : ℕ → ℤ) (cells : List ℤ) → Appended at 0 sample cells cells
appended_none at sample cells = record {
  before = λ i lt. refl;
  samples = λ i lt. absurd (omega arith);
  range = λ i lt. absurd (omega arith);
}

-- one more sample behind the others
pub appended_more : (at n : ℕ) (sample : ℕ → ℤ) (value : ℤ) (old mid : List ℤ) → Appended at n sample old mid
    → value ≡ sample n → Is24 value → at + n < length mid → Appended at (n + 1) sample old (set mid (at + n) value)
appended_more at n sample value old mid done is range inside =
    let here : get_or (set mid (at + n) value) (at + n) (pos 0) ≡ value = get_or-set_same mid (at + n) value (pos 0) inside in
    let kept : (k : ℕ) → k ≢ at + n → get_or (set mid (at + n) value) k (pos 0) ≡ get_or mid k (pos 0) =
    λ k other. get_or-set_other mid (at + n) k value (pos 0) other in
    record {
      before = λ i lt. kept i (omega arith) ∙ done.before i lt;
      samples = below_more (λ i. get_or (set mid (at + n) value) (at + i) (pos 0) ≡ sample i) n
          (λ i lt. kept (at + i) (omega arith) ∙ done.samples i lt) (here ∙ is);
      range = below_more (λ i. Is24 (get_or (set mid (at + n) value) (at + i) (pos 0))) n
          (λ i lt. rw (kept (at + i) (omega arith)) (done.range i lt)) (rw here range);
    }
