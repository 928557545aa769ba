-- The decoder has run over the words before this group's.
use Rattle.std.proofs.Common.{◌*◌, ◌-◌, ◌≤◌}
use Rattle.ima_adpcm.specs.Frames.{ChannelRun}
use Rattle.ima_adpcm.proofs.block.words_into.Given as goal

abbrev pub invariant-loop-group : goal.invariant-loop-group
invariant-loop-group l =
    ChannelRun l.block l.ch l.c (8 * l.groups.start) (8 * (l.group - l.groups.start)) l.at
    l.fn.before l.decoder l.initial.out l.out
    × (l.group - l.groups.start ≤ l.groups.end - l.groups.start)
