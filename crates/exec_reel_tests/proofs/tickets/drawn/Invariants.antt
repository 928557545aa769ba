use Rattle.exec_reel.specs.Reels.{IsDrawerOf}
use Rattle.exec_reel_tests.proofs.tickets.drawn.Given as goal

abbrev pub invariant-loop : goal.invariant-loop
invariant-loop l = IsDrawerOf l.reel l.drawer
