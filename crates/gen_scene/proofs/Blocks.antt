-- A sound's samples block by block.
use Rattle.std.proofs.Common.{◌≡◌, ℕ, ◌+◌, ◌*◌, List, ◌++◌, sym, ◌∙◌, ap, arith, zero-add, add-one, mul-suc, append_assoc, append-nil}
use Rattle.std.proofs.lemmas.Grind.{flat_map-append}
use Rattle.wave_write.specs.Header.{header}
use Rattle.wave_write.specs.Samples.{packed, packed_sample}
use Rattle.gen_scene.specs.Draws.{state}
use Rattle.gen_scene.specs.Sounds.{noise, noise_bytes, sound_channels, sound_rate, sound_samples}
use Rattle.gen_scene.proofs.DrawLemmas.{state-resumed, state-start}
use Rattle.gen_scene.proofs.NoiseLemmas.{noise-join, noise-resumed}

-- so many samples, and then more from the state behind them
bytes-more : (start m n : ℕ) → noise_bytes start (m + n) ≡ noise_bytes start m ++ noise_bytes (state start m) n
unfolding noise_bytes
bytes-more start m n =
    ap (packed 16) (noise-join start 0 m n) ∙ flat_map-append (packed_sample 16) (noise start 0 m) (noise start (0 + m) n)
    ∙ ap (λ k. packed 16 (noise start 0 m) ++ packed 16 (noise start k n)) (zero-add m)
    ∙ ap (λ samples. packed 16 (noise start 0 m) ++ packed 16 samples) (sym (noise-resumed start m n))

-- no block yet
pub pushed-none : (start size : ℕ) (old : List ℕ) → old ≡ old ++ noise_bytes start (size * 0)
unfolding noise_bytes
pushed-none start size old = let none : size * 0 ≡ 0 = omega arith in rw none (sym (append-nil old))

pub state-none : (start size : ℕ) → start ≡ state start (size * 0)
state-none start size = let none : size * 0 ≡ 0 = omega arith in rw none (sym (state-start start))

-- one block more, of `size` samples
module _ (start now size block : ℕ) (is : now ≡ state start (size * block)) where
  next-block : size * (block + 1) ≡ size * block + size
  next-block = rw add-one (mul-suc size block)

  pub state-more : (next : ℕ) → next ≡ state now size → next ≡ state start (size * (block + 1))
  state-more next after = rw next-block (after ∙ ap (λ s. state s size) is ∙ state-resumed start (size * block) size)

  pub pushed-more : (old before after : List ℕ) → before ≡ old ++ noise_bytes start (size * block)
      → after ≡ before ++ packed 16 (noise now 0 size) → after ≡ old ++ noise_bytes start (size * (block + 1))
  unfolding noise_bytes
  pushed-more old before after pushed more =
      more ∙ ap (λ xs. xs ++ noise_bytes now size) pushed ∙ append_assoc old (noise_bytes start (size * block)) (noise_bytes now size)
      ∙ ap (λ s. old ++ (noise_bytes start (size * block) ++ noise_bytes s size)) is
      ∙ ap (λ xs. old ++ xs) (sym (ap (noise_bytes start) next-block ∙ bytes-more start (size * block) size))

-- the header of a sound
pub header-of : (bytes : List ℕ) (channels rate i : ℕ) → channels ≡ sound_channels i → rate ≡ sound_rate i → bytes ≡ header channels rate 16 220500
    → bytes ≡ header (sound_channels i) (sound_rate i) 16 220500
header-of bytes channels rate i by_channels by_rate is = is ∙ ap (λ n. header n rate 16 220500) by_channels ∙ ap (λ n. header (sound_channels i) n 16 220500) by_rate

-- 45 blocks of each channel are a sound's samples
pub samples-of : (channels i : ℕ) → channels ≡ sound_channels i → 4900 * (45 * channels) ≡ sound_samples i
samples-of channels i is =
    let e : 4900 * (45 * channels) ≡ 220500 * channels = omega arith in
    e ∙ ap (λ n. 220500 * n) is
