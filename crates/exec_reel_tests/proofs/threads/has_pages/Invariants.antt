use Rattle.std.proofs.Common.{◌≡◌}
use Rattle.exec_reel.specs.Reels.{clip_of_reader}
use Rattle.exec_reel_tests.proofs.threads.has_pages.Given as goal

abbrev pub invariant-loop-k : goal.invariant-loop-k
invariant-loop-k l = clip_of_reader l.reader ≡ clip_of_reader l.initial.reader
