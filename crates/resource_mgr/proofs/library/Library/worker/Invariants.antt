use Rattle.std.proofs.Common.{◌≡◌}
use Rattle.resource_mgr.proofs.Workers.{Goes}
use Rattle.resource_mgr.specs.Desks.{desk_number, IsDeskOf}
use Rattle.resource_mgr.specs.Working.{NoneLost}
use Rattle.resource_mgr.proofs.library.Library.worker.Given as goal

abbrev pub invariant-loop : goal.invariant-loop
invariant-loop g l = record {
  desk : IsDeskOf l.self l.desk;
  number : desk_number l.desk ≡ desk_number l.fn.desk;
  goes : Goes l.fn.desk l.desk;
  jobs : NoneLost l.fn.desk l.desk;
  can_next : (goal.iterator-loop g).can_next l.iterator';
  finite : (goal.iterator-loop g).is_finite l.iterator';
}
