-- The decoder has run over the word's codes before code i.
use Rattle.std.proofs.Common.{◌*◌}
use Rattle.ima_adpcm.specs.Frames.{ChannelRun}
use Rattle.ima_adpcm.proofs.block.word_into.Given as goal

abbrev pub invariant-loop-i : goal.invariant-loop-i
invariant-loop-i l =
    ChannelRun l.block l.ch l.c (8 * l.group) l.i l.at l.fn.before l.decoder l.initial.out l.out
