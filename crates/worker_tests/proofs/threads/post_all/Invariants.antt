use Rattle.resource_mgr.specs.Desks.{IsDeskOf}
use Rattle.worker_tests.proofs.threads.post_all.Given as goal

abbrev pub invariant-loop : goal.invariant-loop
invariant-loop g l = record {
  desk : IsDeskOf l.library l.desk;
  can_next : (goal.iterator-loop g).can_next l.iterator';
  finite : (goal.iterator-loop g).is_finite l.iterator';
}

abbrev pub invariant-loop-2 : goal.invariant-loop-2
invariant-loop-2 g l = record {
  desk : IsDeskOf l.library l.desk;
  can_next : (goal.iterator-loop-2 g).can_next l.iterator';
  finite : (goal.iterator-loop-2 g).is_finite l.iterator';
}
