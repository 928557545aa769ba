-- How many frames a block has, by whether its headers are there, and where a word lies.
use Rattle.std.proofs.Common.{◌≡◌, ◌≢◌, ◌∙◌, List, [], length, zero-mul, ℕ, ◌+◌, ◌-◌, ◌*◌, ◌/◌, ◌<◌, ◌≤◌, arith, ap, refl, Bool, true, false, cond, ◌⊎◌, inl, inr}
use Rattle.std.proofs.Math.Nat.{mul-le-mul_left, mul-div-le}
use Rattle.std.proofs.Math.Dec.{ltb}
use Rattle.std.proofs.lemmas.Bool.{le-ltb, lt-ltb, ltb-true, ltb-false}
use Rattle.std.proofs.lemmas.List.{nil_from_length}
use Rattle.std.proofs.lemmas.List.FromFn.{length-map-range_with_len}
use Rattle.ima_adpcm.specs.Blocks.{block_frames, block_samples}

pub below_or_not : (a b : ℕ) → (a < b) ⊎ (b ≤ a)
below_or_not a b = by_test (ltb a b) refl
  where
    by_test : (t : Bool) → ltb a b ≡ t → (a < b) ⊎ (b ≤ a)
    by_test true e = inl (ltb-true a b e)
    by_test false e = inr (ltb-false a b e)

pub block_frames-short : (n ch : ℕ) → n < 4 * ch → block_frames n ch ≡ 0
block_frames-short n ch short =
    ap (λ b. cond b 0 (1 + 8 * ((n - 4 * ch) / (4 * ch)))) (lt-ltb n (4 * ch) short)

pub block_frames-whole : (n ch : ℕ) → 4 * ch ≤ n → block_frames n ch ≡ 1 + 8 * ((n - 4 * ch) / (4 * ch))
block_frames-whole n ch whole =
    ap (λ b. cond b 0 (1 + 8 * ((n - 4 * ch) / (4 * ch)))) (le-ltb n (4 * ch) whole)

-- the word of a code that gives a frame lies in the block
pub word-inside : (n ch c j : ℕ) → c < ch → j + 1 < block_frames n ch
    → 4 * ch + 4 * ch * (j / 8) + 4 * c + 4 ≤ n
word-inside n ch c j channel there =
    elim (below_or_not n (4 * ch)) [
      | inl short ↦ absurd (omega (arith, there, block_frames-short n ch short))
      | inr whole ↦
          let groups = (n - 4 * ch) / (4 * ch) in
          let below : j / 8 + 1 ≤ groups = omega (arith, there, block_frames-whole n ch whole) in
          let words : 4 * ch * (j / 8 + 1) ≤ 4 * ch * groups = mul-le-mul_left (4 * ch) below in
          omega (arith, words, mul-div-le (n - 4 * ch) (4 * ch))
    ]

pub short-block : (n ch : ℕ) → block_frames n ch ≡ 0 → n < 4 * ch
short-block n ch none =
    elim (below_or_not n (4 * ch)) [
      | inl short ↦ short
      | inr whole ↦ absurd (omega (arith, none, block_frames-whole n ch whole))
    ]

pub whole-block : (n ch : ℕ) → block_frames n ch ≢ 0 → 4 * ch ≤ n
whole-block n ch some =
    elim (below_or_not n (4 * ch)) [
      | inl short ↦ absurd (some (block_frames-short n ch short))
      | inr whole ↦ whole
    ]

pub length-block_samples : (bytes : List ℕ) (ch : ℕ)
    → length (block_samples bytes ch) ≡ block_frames (length bytes) ch * ch
unfolding block_samples
length-block_samples bytes ch = length-map-range_with_len _ 0 (block_frames (length bytes) ch * ch)

pub block_samples-none : (bytes : List ℕ) (ch : ℕ) → block_frames (length bytes) ch ≡ 0 → block_samples bytes ch ≡ []
block_samples-none bytes ch none =
    nil_from_length (block_samples bytes ch) (length-block_samples bytes ch ∙ ap (λ n. n * ch) none ∙ zero-mul ch)
