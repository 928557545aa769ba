use Rattle.std.proofs.Common.{sym, ◌∙◌}
use Rattle.node_graph.proofs.Wired.{number_here, number_none}
use Rattle.node_graph.proofs.list_changes.number_of.Goals as goal

pub returns-then-is_output : goal.returns-then-is_output
returns-then-is_output c =
    number_here c.args.buses.now c.args.node c.args.out c.loop-number.number c.loop-number-test.true c.loop-number.invariant (sym c.is_output.ensures ∙ c.if-is_output.true)

pub returns : goal.returns
returns c =
    number_none c.args.buses.now c.args.node c.args.out c.loop-number.number c.loop-number-test.false c.loop-number.invariant
