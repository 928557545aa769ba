use Rattle.std.proofs.Common.{◌≡◌, false}
use Rattle.bus_list.specs.PassViews.{is_visiting, list_of_pass}
use Rattle.bus_list_tests.proofs.many_edits.visit_many.Given as goal

abbrev pub invariant-loop : goal.invariant-loop
invariant-loop l = (is_visiting l.pass ≡ false) × (list_of_pass l.pass ≡ list_of_pass l.initial.pass)
