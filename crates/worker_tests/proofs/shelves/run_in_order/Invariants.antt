use Rattle.resource_mgr.specs.Desks.{IsDeskOf}
use Rattle.worker_tests.proofs.shelves.run_in_order.Given as goal

abbrev pub invariant-loop-number : goal.invariant-loop-number
invariant-loop-number g l = IsDeskOf l.library l.desk
