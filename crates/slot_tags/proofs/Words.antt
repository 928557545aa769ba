-- Bits and counters after a step on one word.
use Rattle.std.proofs.Common.{◌≡◌, ◌≢◌, ℕ, ◌+◌, ◌*◌, ◌/◌, ◌%◌, ◌^◌, ◌<◌, List, length, set, sym, ap, ◌∙◌, arith, get_or-set_same, get_or-set_other}
use Rattle.std.specs.Prelude.{slice_index}
use Rattle.std.specs.Int.{bit_at, trailing_zeros, w64}
use Rattle.std.proofs.lemmas.Nat.{one_shl, pow_below, pow_pos}
use Rattle.std.proofs.lemmas.Nat.Bits.{bit_at-trailing_zeros, bit_at-pow_other}
use mathlib.Core.Logic.{dite}
use native.Mathlib.Decide.{ℕ_discrete}

-- a slot is told by its group and its place there
same_slot : (x slot : ℕ) → x / 32 ≡ slot / 32 → x % 32 ≡ slot % 32 → x ≡ slot
same_slot x slot group place = omega arith

-- the mask of one bit has its place in it
mask_place : (k : ℕ) → k < 64 → trailing_zeros w64 (2 ^ k) ≡ k
mask_place k lt =
    let lowest = bit_at-trailing_zeros w64 (2 ^ k) (pow_pos k) (pow_below k 64 lt) in
    dite (ℕ_discrete (trailing_zeros w64 (2 ^ k)) k) (λ (e : trailing_zeros w64 (2 ^ k) ≡ k). e)
    (λ (n : trailing_zeros w64 (2 ^ k) ≢ k). let zero : bit_at (2 ^ k) (trailing_zeros w64 (2 ^ k)) ≡ 0 = bit_at-pow_other k (trailing_zeros w64 (2 ^ k)) n in let one = lowest.1 in absurd (omega arith))

pub slot_is : (slot : ℕ) → 32 * (slot / 32) + trailing_zeros w64 (1 * 2 ^ (slot % 32) % 2 ^ 64) ≡ slot
slot_is slot =
    let e : trailing_zeros w64 (1 * 2 ^ (slot % 32) % 2 ^ 64) ≡ slot % 32 = ap (trailing_zeros w64) (one_shl (slot % 32) 64 (omega arith)) ∙ mask_place (slot % 32) (omega arith) in
    omega arith

-- a word of bits becomes n
module _ (groups slot : ℕ) (words : List ℕ) (n : ℕ) (inside : slot < 32 * groups) (size : length words ≡ 33 * groups) where
  pub bit_here : bit_at (slice_index (set words (slot / 32) n) (slot / 32)) (slot % 32) ≡ bit_at n (slot % 32)
  bit_here = ap (λ m. bit_at m (slot % 32)) (get_or-set_same words (slot / 32) n 0 (omega arith))

  pub bit_else : ((i : ℕ) → i < 32 → i ≢ slot % 32 → bit_at n i ≡ bit_at (slice_index words (slot / 32)) i)
      → (x : ℕ) → x ≢ slot → bit_at (slice_index (set words (slot / 32) n) (x / 32)) (x % 32) ≡ bit_at (slice_index words (x / 32)) (x % 32)
  bit_else other x apart = dite (ℕ_discrete (x / 32) (slot / 32))
      (λ (e : x / 32 ≡ slot / 32).
      let place : x % 32 ≢ slot % 32 = λ q. apart (same_slot x slot e q) in
      ap (λ g. bit_at (slice_index (set words (slot / 32) n) g) (x % 32)) e
      ∙ ap (λ m. bit_at m (x % 32)) (get_or-set_same words (slot / 32) n 0 (omega arith))
      ∙ other (x % 32) (omega arith) place ∙ ap (λ g. bit_at (slice_index words g) (x % 32)) (sym e))
      (λ (ne : x / 32 ≢ slot / 32). ap (λ m. bit_at m (x % 32)) (get_or-set_other words (slot / 32) (x / 32) n 0 ne))

  pub counts_stay : (x : ℕ) → slice_index (set words (slot / 32) n) (groups + x) ≡ slice_index words (groups + x)
  counts_stay x = get_or-set_other words (slot / 32) (groups + x) n 0 (λ e. absurd (omega arith))

-- the counter of a slot becomes n
module _ (groups slot : ℕ) (words : List ℕ) (n : ℕ) (inside : slot < 32 * groups) (size : length words ≡ 33 * groups) where
  pub count_here : slice_index (set words (groups + slot) n) (groups + slot) ≡ n
  count_here = get_or-set_same words (groups + slot) n 0 (omega arith)

  pub count_else : (x : ℕ) → x ≢ slot → slice_index (set words (groups + slot) n) (groups + x) ≡ slice_index words (groups + x)
  count_else x apart = get_or-set_other words (groups + slot) (groups + x) n 0 (λ e. apart (omega arith))

  pub bits_stay : (x : ℕ) → x < 32 * groups → bit_at (slice_index (set words (groups + slot) n) (x / 32)) (x % 32) ≡ bit_at (slice_index words (x / 32)) (x % 32)
  bits_stay x lt = ap (λ m. bit_at m (x % 32)) (get_or-set_other words (groups + slot) (x / 32) n 0 (λ e. absurd (omega arith)))
