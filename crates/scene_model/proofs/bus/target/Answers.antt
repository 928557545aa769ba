use Rattle.std.proofs.Common.{sym, ◌∙◌}
use Rattle.scene_model.proofs.Steps.{no_bus, target_more, target_here, target_none}
use Rattle.scene_model.proofs.bus.target.Goals as goal

pub loop-bus-preserved : goal.loop-bus-preserved
loop-bus-preserved c =
    target_more c.args.buses.now c.args.node c.args.out c.loop-bus.bus-index no_bus c.loop-bus-test.true (sym c.is_output.ensures ∙ c.if-is_output.false) ∙ c.loop-bus.invariant

pub returns-then-is_output : goal.returns-then-is_output
returns-then-is_output c =
    target_here c.args.buses.now c.args.node c.args.out c.loop-bus.bus-index no_bus c.loop-bus-test.true (sym c.is_output.ensures ∙ c.if-is_output.true) ∙ c.loop-bus.invariant

pub returns : goal.returns
returns c =
    target_none c.args.buses.now c.args.node c.args.out c.loop-bus.bus-index c.loop-bus-test.false ∙ c.loop-bus.invariant
