-- Samples that go on from a state, and samples that follow one another.
use Rattle.std.specs.Prelude.{◌≡◌, ℕ, zero, suc, ◌+◌, ◌∷◌, ◌++◌, map, refl}
use Rattle.std.specs.List.{range_with_len}
use Rattle.std.proofs.Common.{ap, arith}
use Rattle.plain_data.proofs.Lists.{map_range-join}
use Rattle.wave_write.specs.Header.{header}
use Rattle.wave_write.specs.Samples.{packed}
use Rattle.gen_scene.specs.Draws.{state}
use Rattle.gen_scene.proofs.DrawLemmas.{state-resumed}
use Rattle.gen_scene.specs.Sounds.{sound_frames, sound_channels, sound_rate, sound_samples, first_draw, noise_sample, noise, sound_file, noise_bytes, sound_from}

-- samples from a draw on are those of the state there, from its first draw on
pub noise-resumed : (number n count : ℕ) → noise (state number n) 0 count ≡ noise number n count
noise-resumed number n count = shifted count 0 n (omega arith)
  where
    shifted : (count a b : ℕ) → n + a ≡ b → map (noise_sample (state number n)) (range_with_len a count) ≡ map (noise_sample number) (range_with_len b count)
    shifted zero a b is = refl
    shifted (suc count) a b is =
        rw (state-resumed number n a, is) (ap (λ xs. noise_sample number b ∷ xs) (shifted count (a + 1) (b + 1) (omega arith)))

-- samples that follow one another
pub noise-join : (number from m n : ℕ) → noise number from (m + n) ≡ noise number from m ++ noise number (from + m) n
noise-join number from m n = map_range-join (noise_sample number) from m n

-- a sound by the state before it is the sound
pub sound_from-is : (number i : ℕ) → sound_from (state number (first_draw i)) i ≡ sound_file number i
unfolding sound_file noise_bytes
sound_from-is number i =
    ap (λ samples. header (sound_channels i) (sound_rate i) 16 sound_frames ++ packed 16 samples) (noise-resumed number (first_draw i) (sound_samples i))
