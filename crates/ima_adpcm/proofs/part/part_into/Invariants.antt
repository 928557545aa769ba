-- The channels so far are written, and their decoders stand at the last frame; the others are as they were.
use Rattle.std.proofs.Common.{◌≡◌, ℕ, ◌+◌, ◌-◌, ◌*◌, ◌<◌, ◌≤◌, pos, slice_index_or}
use Rattle.ima_adpcm.specs.Blocks.{block_sample, block_state}
use Rattle.ima_adpcm.specs.Decoder.{State}
use Rattle.ima_adpcm.proofs.FrameLemmas.{ChannelsWritten}
use Rattle.ima_adpcm.proofs.part.part_into.Given as goal

abbrev pub invariant-loop-c : goal.invariant-loop-c
invariant-loop-c l = record {
  done : (d : ℕ) (other : State) → d < l.c
      → slice_index_or l.decoders d other ≡ block_state l.block l.ch d (l.frames.end - 1);
  left : (d : ℕ) (other : State) → l.c ≤ d → d < l.ch → 0 < l.frames.start
      → slice_index_or l.decoders d other ≡ block_state l.block l.ch d (l.frames.start - 1);
  others : (d : ℕ) (other : State) → l.ch ≤ d → slice_index_or l.decoders d other ≡ slice_index_or l.initial.decoders d other;
  rest : (k : ℕ) → (l.frames.end - l.frames.start) * l.ch ≤ k
      → slice_index_or l.out k (pos 0) ≡ slice_index_or l.initial.out k (pos 0);
  written : ChannelsWritten l.ch (l.frames.end - l.frames.start) l.c
      (λ d f. block_sample l.block l.ch d (l.frames.start + f)) l.initial.out l.out;
}
