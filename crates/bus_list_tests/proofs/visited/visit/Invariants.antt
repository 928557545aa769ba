use Rattle.std.proofs.Common.{◌≡◌, true}
use Rattle.bus_list.specs.PassViews.{is_visiting, list_of_pass}
use Rattle.bus_list_tests.proofs.visited.visit.Given as goal

abbrev pub invariant-loop : goal.invariant-loop
invariant-loop l = (is_visiting l.pass ≡ true) × (list_of_pass l.pass ≡ list_of_pass l.initial.pass)
