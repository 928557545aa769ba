-- Samples that were packed: how many bytes they are, and what stands at the place of each.
use Rattle.std.proofs.Common.{◌≡◌, ℕ, zero, suc, ◌+◌, ◌-◌, ◌*◌, ◌/◌, ◌%◌, ◌^◌, ◌<◌, List, [], ◌∷◌, ◌++◌, length, take, drop, get_or, pos, negsuc, ◌-ℤ◌, ◌≤ℤ◌, refl, ◌∙◌, inl, inr, arith, length-append}
use Rattle.std.specs.Prelude.{All, ℤ, IsTrue, ◌⊎◌}
use Rattle.std.specs.Int.{int_div_euclid}
use Rattle.std.specs.List.{flat_map}
use Rattle.std.proofs.lemmas.Bool.{eqb-true, or_cases, le-leb, lt-leb}
use Rattle.std.proofs.lemmas.Int.{ints}
use Rattle.std.proofs.lemmas.List.{get_or_append_left, get_or-append-add}
use Rattle.std.proofs.lemmas.List.Elements.{All-head, All-tail}
use Rattle.byteorder.specs.Endian.{little_bytes, little_number}
use Rattle.byteorder.specs.Numbers.{little_from-bytes, little_number-reads_back}
use Rattle.clip_decode.specs.Frames.{interleaved}
use Rattle.clip_decode.specs.Pcm.{pcm_value}
use Rattle.clip_decode.specs.Widened.{widened}
use Rattle.mix_fixed.specs.Sound.{Is24}
use Rattle.scene_model.specs.IsScene.{is_width}
use Rattle.wave_write.specs.Samples.{signed_bytes, packed_sample, packed}

-- frames of one width, one after the other
pub length_interleaved : (channels : ℕ) (frames : List (List ℤ)) → All (λ frame. length frame ≡ channels) frames
    → length (interleaved frames) ≡ length frames * channels
unfolding interleaved
length_interleaved channels [] widths = omega arith
length_interleaved channels (frame ∷ frames) widths =
    let first : length frame ≡ channels = All-head (λ (f : List ℤ). length f ≡ channels) frame frames widths in
    omega (
      arith,
      length-append frame (flat_map (λ (f : List ℤ). f) frames),
      length_interleaved channels frames (All-tail (λ (f : List ℤ). length f ≡ channels) frame frames widths),
      first,
    )

pub width_cases : (width : ℕ) → IsTrue (is_width width) → (width ≡ 16) ⊎ (width ≡ 24)
width_cases width one = elim (or_cases _ _ one) [
  | inl is ↦ inl (eqb-true width 16 is)
  | inr is ↦ inr (eqb-true width 24 is)
]

length_16 : (samples : List ℤ) → length (packed 16 samples) ≡ length samples * 2
length_16 [] = omega arith
length_16 (x ∷ xs) = omega (arith, length_16 xs)

length_24 : (samples : List ℤ) → length (packed 24 samples) ≡ length samples * 3
length_24 [] = omega arith
length_24 (x ∷ xs) = omega (arith, length_24 xs)

-- a sample has the bytes of the width
pub length_packed : (width : ℕ) (samples : List ℤ) → IsTrue (is_width width) → length (packed width samples) ≡ length samples * (width / 8)
length_packed width samples one = elim (width_cases width one) [
  | inl is ↦ rw is (length_16 samples)
  | inr is ↦ rw is (length_24 samples)
]

-- the sample of a channel in a frame stands by the numbers of both
pub interleaved_at : (channels : ℕ) (frames : List (List ℤ)) (n c : ℕ) → All (λ frame. length frame ≡ channels) frames
    → n < length frames → c < channels
    → get_or (interleaved frames) (n * channels + c) (pos 0) ≡ get_or (get_or frames n []) c (pos 0)
unfolding interleaved
interleaved_at channels [] n c widths below inside = absurd (omega arith)
interleaved_at channels (frame ∷ frames) zero c widths below inside =
    let first : length frame ≡ channels = All-head (λ (f : List ℤ). length f ≡ channels) frame frames widths in
    let place : 0 * channels + c ≡ c = omega arith in
    rw place (get_or_append_left frame (interleaved frames) (pos 0) c (omega (arith, first, inside)))
interleaved_at channels (frame ∷ frames) (suc n) c widths below inside =
    let first : length frame ≡ channels = All-head (λ (f : List ℤ). length f ≡ channels) frame frames widths in
    let place : suc n * channels + c ≡ length frame + (n * channels + c) = omega (arith, first) in
    rw place (get_or-append-add frame (interleaved frames) (n * channels + c) (pos 0)
    ∙ interleaved_at channels frames n c (All-tail (λ (f : List ℤ). length f ≡ channels) frame frames widths) (omega arith) inside)

-- the bytes of a sample, by its number
packed_at_16 : (samples : List ℤ) (rest : List ℕ) (i : ℕ) → i < length samples
    → take 2 (drop (2 * i) (packed 16 samples ++ rest)) ≡ packed_sample 16 (get_or samples i (pos 0))
packed_at_16 [] rest i inside = absurd (omega arith)
packed_at_16 (x ∷ xs) rest zero inside = refl
packed_at_16 (x ∷ xs) rest (suc i) inside =
    let place : 2 * suc i ≡ suc (suc (2 * i)) = omega arith in
    rw place (packed_at_16 xs rest i (omega arith))

packed_at_24 : (samples : List ℤ) (rest : List ℕ) (i : ℕ) → i < length samples
    → take 3 (drop (3 * i) (packed 24 samples ++ rest)) ≡ packed_sample 24 (get_or samples i (pos 0))
packed_at_24 [] rest i inside = absurd (omega arith)
packed_at_24 (x ∷ xs) rest zero inside = refl
packed_at_24 (x ∷ xs) rest (suc i) inside =
    let place : 3 * suc i ≡ suc (suc (suc (3 * i))) = omega arith in
    rw place (packed_at_24 xs rest i (omega arith))

pub packed_at : (width : ℕ) (samples : List ℤ) (rest : List ℕ) (i : ℕ) → IsTrue (is_width width) → i < length samples
    → take (width / 8) (drop (width / 8 * i) (packed width samples ++ rest)) ≡ packed_sample width (get_or samples i (pos 0))
packed_at width samples rest i one inside = elim (width_cases width one) [
  | inl is ↦ rw is (packed_at_16 samples rest i inside)
  | inr is ↦ rw is (packed_at_24 samples rest i inside)
]

-- a number of two bytes is read as what was packed, with eight more low bits
value_of_two : (y : ℤ) → negsuc 32767 ≤ℤ y → y ≤ℤ pos 32767 → pcm_value (signed_bytes 2 y) ≡ widened y
unfolding pcm_value
value_of_two (pos n) low high =
    let small : n < 32768 = omega (arith, ints, high) in
    let read : little_number 2 (little_bytes 2 n) ≡ n = little_number-reads_back 2 n [] (omega arith) in
    rw (read, le-leb (suc n) 32768 (omega arith)) refl
value_of_two (negsuc n) low high =
    let small : n < 32768 = omega (arith, ints, low) in
    let bits : (4294967296 - suc n) / 256 ^ 0 % 256 ^ 2 ≡ 65536 - suc n = omega arith in
    let read : little_number 2 (little_bytes 2 (4294967296 - suc n)) ≡ 65536 - suc n =
    little_from-bytes 2 0 (4294967296 - suc n) [] ∙ bits in
    let back : pos (65536 - suc n) -ℤ pos 65536 ≡ negsuc n = omega (arith, ints) in
    rw (read, lt-leb (suc (65536 - suc n)) 32768 (omega arith), back) refl

-- a sample of 24 bits at 16 bits: its low eight bits are 0
pub value_16 : (x : ℤ) → Is24 x → pcm_value (packed_sample 16 x) ≡ widened (int_div_euclid x (pos 256))
value_16 x range = value_of_two (int_div_euclid x (pos 256)) (grind (arith, range.low)) (grind (arith, range.high))

-- and at 24 bits: the sample
pub value_24 : (x : ℤ) → Is24 x → pcm_value (packed_sample 24 x) ≡ x
unfolding pcm_value
value_24 (pos n) range =
    let small : n < 8388608 = omega (arith, ints, range.high) in
    let read : little_number 3 (little_bytes 3 n) ≡ n = little_number-reads_back 3 n [] (omega arith) in
    rw (read, le-leb (suc n) 8388608 (omega arith)) refl
value_24 (negsuc n) range =
    let small : n < 8388608 = omega (arith, ints, range.low) in
    let bits : (4294967296 - suc n) / 256 ^ 0 % 256 ^ 3 ≡ 16777216 - suc n = omega arith in
    let read : little_number 3 (little_bytes 3 (4294967296 - suc n)) ≡ 16777216 - suc n =
    little_from-bytes 3 0 (4294967296 - suc n) [] ∙ bits in
    let back : pos (16777216 - suc n) -ℤ pos 16777216 ≡ negsuc n = omega (arith, ints) in
    rw (read, lt-leb (suc (16777216 - suc n)) 8388608 (omega arith), back) refl
