use Rattle.stream_reel.specs.Ends.{SameFiller}
use Rattle.stream_reel_tests.proofs.one_thread.fills.Given as goal

abbrev pub invariant-loop-round : goal.invariant-loop-round
invariant-loop-round g l = SameFiller l.initial.filler l.filler
