use Rattle.std.proofs.Common.{◌≡◌, true}
use Rattle.bus_list.specs.PassViews.{is_visiting}
use Rattle.list_bench.proofs.lists.visit.Given as goal

abbrev pub invariant-loop : goal.invariant-loop
invariant-loop l = is_visiting l.pass ≡ true
