use Rattle.std.proofs.Common.{◌≡◌}
use Rattle.stream_reel.specs.Ends.{IsStream}
use Rattle.stream_reel_tests.proofs.whole_streams.heard_whole.Given as goal

abbrev pub invariant-loop : goal.invariant-loop
invariant-loop g l = record {
  stream : IsStream l.filler l.listener;
  pages : l.listener.pages ≡ l.pages;
}
