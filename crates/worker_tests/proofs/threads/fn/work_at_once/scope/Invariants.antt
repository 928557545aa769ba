use Rattle.std.proofs.Common.{All}
use Rattle.std.specs.Vec.Iter.{into_iter_items}
use Rattle.resource_mgr.specs.Desks.{IsDeskOf}
use Rattle.worker_tests.proofs.threads.fn.work_at_once.scope.Given as goal

abbrev pub invariant-loop-desk : goal.invariant-loop-desk
invariant-loop-desk g l = All (IsDeskOf l.library.now) (into_iter_items l.desk-iterator)
