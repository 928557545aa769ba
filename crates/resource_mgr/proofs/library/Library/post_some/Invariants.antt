use Rattle.std.proofs.Common.{◌≡◌, length}
use Rattle.resource_mgr.proofs.Posts.{PostedFirst}
use Rattle.resource_mgr.specs.Desks.{desk_number, ended_of, kept_of, left_of, IsDeskOf}
use Rattle.resource_mgr.proofs.library.Library.post_some.Given as goal

abbrev pub invariant-loop-work : goal.invariant-loop-work
invariant-loop-work g l = record {
  desk : IsDeskOf l.self l.desk;
  number : desk_number l.desk ≡ desk_number l.fn.desk;
  kept : kept_of l.desk ≡ kept_of l.fn.desk;
  ended : ended_of l.desk ≡ ended_of l.fn.desk;
  first : PostedFirst l.self l.fn.poster l.poster l.fn.desk l.desk;
}

abbrev pub decreases-loop-work : goal.decreases-loop-work
decreases-loop-work g l = length (left_of l.poster)
