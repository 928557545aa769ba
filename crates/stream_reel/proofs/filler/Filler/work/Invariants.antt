-- The filler is the one that it was.
use Rattle.stream_reel.specs.Ends.{SameFiller}
use Rattle.stream_reel.proofs.filler.Filler.work.Given as goal

abbrev pub invariant-loop : goal.invariant-loop
invariant-loop g l = record {
  same : SameFiller l.initial.self l.self;
}
