use Rattle.resource_mgr.specs.Desks.{IsDeskOf}
use Rattle.worker_tests.proofs.threads.decode.Given as goal

abbrev pub invariant-loop-tape : goal.invariant-loop-tape
invariant-loop-tape g l = IsDeskOf l.library l.own
