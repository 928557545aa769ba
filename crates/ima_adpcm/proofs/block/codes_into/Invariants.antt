-- The decoder has run over the codes before code j.
use Rattle.std.proofs.Common.{◌-◌, ◌≤◌}
use Rattle.ima_adpcm.specs.Frames.{ChannelRun}
use Rattle.ima_adpcm.proofs.block.codes_into.Given as goal

abbrev pub invariant-loop-j : goal.invariant-loop-j
invariant-loop-j l =
    ChannelRun l.block l.ch l.c l.codes.start (l.j - l.codes.start) l.at l.fn.before l.decoder l.initial.out l.out
    × (l.j - l.codes.start ≤ l.codes.end - l.codes.start)
