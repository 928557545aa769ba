use Rattle.std.proofs.Common.{◌≡◌, false}
use Rattle.bus_list.specs.PassViews.{is_visiting}
use Rattle.list_bench.proofs.lists.visit_rounds.Given as goal

abbrev pub invariant-loop : goal.invariant-loop
invariant-loop l = is_visiting l.pass ≡ false
