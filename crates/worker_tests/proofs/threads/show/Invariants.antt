use Rattle.std.proofs.Common.{◌≡◌}
use Rattle.resource_mgr.specs.Desks.{IsDeskOf}
use Rattle.resource_mgr.specs.Tapes.{clip_of}
use Rattle.worker_tests.proofs.threads.show.Given as goal

abbrev pub invariant-loop : goal.invariant-loop
invariant-loop g l = record {
  desk : IsDeskOf l.library l.desk;
  clip : clip_of l.tape ≡ clip_of l.fn.tape;
  can_next : (goal.iterator-loop g).can_next l.iterator';
  finite : (goal.iterator-loop g).is_finite l.iterator';
}
