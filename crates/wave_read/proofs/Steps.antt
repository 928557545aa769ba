-- The first step index that is too large.
use Rattle.std.proofs.Common.{◌≡◌, ℕ, ◌<◌, ◌≤◌, true, false, ltb, List, refl, sym, ◌∙◌, arith}
use Rattle.std.specs.Prelude.{Option, Some, None}
use Rattle.std.specs.List.{range_with_len}
use Rattle.std.specs.Option.{option_and_then, is_some}
use Rattle.std.proofs.lemmas.Bool.{ltb-false, lt-ltb}
use Rattle.wave_read.specs.StepIndices.{step_index, last_step, block_count, bad_channel, bad_block, block_fault, step_fault}
use Rattle.wave_read.specs.declared.wave.Wave.{Wave}
use Rattle.wave_read.specs.declared.wave_fault.WaveFault.TheVariants.{StepIndex}
use Rattle.wave_read.proofs.Finds.{find_first, find_none, none_found, found_passes, some_is, none_is, map_none, map_some}

module _ (bytes : List ℕ) (w : Wave) where
  pub channel_bad : (b c found : ℕ) → c < w.channels → ((j : ℕ) → j < c → ltb last_step (step_index bytes w b j) ≡ false)
      → last_step < found → found ≡ step_index bytes w b c → Some (StepIndex b c found) ≡ block_fault bytes w b
  unfolding bad_channel
  channel_bad b c found inside before large here =
      let bad : ltb last_step (step_index bytes w b c) ≡ true = lt-ltb last_step (step_index bytes w b c) (rw (← here) large) in
      rw (here, find_first (λ j. ltb last_step (step_index bytes w b j)) w.channels 0 c (omega arith) (omega arith) (λ j _ h. before j h) bad) refl

  pub channels_fine : (b : ℕ) → ((j : ℕ) → j < w.channels → ltb last_step (step_index bytes w b j) ≡ false) → bad_channel bytes w b ≡ None
  unfolding bad_channel
  channels_fine b fine = find_none (λ j. ltb last_step (step_index bytes w b j)) w.channels 0 (λ j _ h. fine j (omega arith))

  pub block_bad : (b : ℕ) → b < block_count w → ((j : ℕ) → j < b → bad_channel bytes w j ≡ None)
      → is_some (block_fault bytes w b) ≡ true → step_fault bytes w ≡ block_fault bytes w b
  unfolding bad_block
  block_bad b inside before here =
      rw (find_first (λ j. is_some (bad_channel bytes w j)) (block_count w) 0 b (omega arith) (omega arith)
      (λ j _ h. rw (before j h) refl) (sym (map_some (λ c. StepIndex b c (step_index bytes w b c)) (bad_channel bytes w b)) ∙ here)) refl

  pub blocks_fine : ((j : ℕ) → j < block_count w → bad_channel bytes w j ≡ None) → step_fault bytes w ≡ None
  unfolding bad_block
  blocks_fine fine =
      rw (find_none (λ j. is_some (bad_channel bytes w j)) (block_count w) 0 (λ j _ h. rw (fine j (omega arith)) refl)) refl

  -- no fault, no index that is too large
  no_bad_block : (o : Option ℕ) → bad_block bytes w ≡ o → option_and_then (block_fault bytes w) o ≡ None → o ≡ None
  unfolding bad_block
  no_bad_block None e none = refl
  no_bad_block (Some b) e none =
      let bad = some_is (bad_channel bytes w b) (found_passes (λ j. is_some (bad_channel bytes w j)) (range_with_len 0 (block_count w)) b e) in
      let fine = map_none (λ c. StepIndex b c (step_index bytes w b c)) (bad_channel bytes w b) none in
      absurd (cc (bad.1, fine))

  pub steps_fine : step_fault bytes w ≡ None → (b c : ℕ) → b < block_count w → c < w.channels → step_index bytes w b c ≤ last_step
  unfolding bad_block bad_channel
  steps_fine none b c block channel =
      let no_block : bad_block bytes w ≡ None = no_bad_block (bad_block bytes w) refl none in
      let no_channel : bad_channel bytes w b ≡ None = none_is (bad_channel bytes w b)
      (none_found (λ j. is_some (bad_channel bytes w j)) (block_count w) 0 no_block b (omega arith) (omega arith)) in
      ltb-false last_step (step_index bytes w b c)
      (none_found (λ j. ltb last_step (step_index bytes w b j)) w.channels 0 no_channel c (omega arith) (omega arith))
