use Rattle.stream_reel.specs.Ends.{SameListener}
use Rattle.stream_reel_tests.proofs.two_threads.play.Given as goal

abbrev pub invariant-loop : goal.invariant-loop
invariant-loop l = SameListener l.initial.played.listener l.played.listener
