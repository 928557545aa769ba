-- The channels so far are written.
use Rattle.ima_adpcm.specs.Blocks.{block_sample}
use Rattle.ima_adpcm.proofs.FrameLemmas.{ChannelsWritten}
use Rattle.ima_adpcm.proofs.block.block_into.Given as goal

abbrev pub invariant-loop-c : goal.invariant-loop-c
invariant-loop-c l = ChannelsWritten l.ch l.frames l.c (block_sample l.bytes l.ch) l.initial.out l.out
