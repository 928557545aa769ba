use Rattle.std.proofs.Common.{sym, ◌∙◌, ap, get_or, set}
use Rattle.scene_model.specs.Wiring.{bus_with_gain}
use Rattle.scene_model.proofs.Steps.{no_bus, over_written, bus_with_gain_true, bus_with_gain_false}
use Rattle.scene_model.proofs.changes.set_gain.Goals as goal
use Rattle.scene_model.proofs.changes.set_gain.Goals.{then-is_output, else-is_output}

pub loop-bus-preserved : goal.loop-bus-preserved
loop-bus-preserved c =
    let change = bus_with_gain c.args.node c.args.out c.args.gain in
    let buses = c.loop-bus.buses in
    let i = c.loop-bus.bus-index in
    let bus = get_or buses i no_bus in
    elim c.if-is_output.branch [
      | then-is_output w ↦
          let is_it = sym c.is_output.ensures ∙ w.if-is_output.true in
          w.buses-is ∙ ap (set buses i) (bus_with_gain_true c.args.node c.args.out c.args.gain bus is_it) ∙ over_written change c.args.buses.now buses i c.loop-bus-test.true c.loop-bus.auto.buses c.loop-bus.invariant
      | else-is_output w ↦
          let is_not = sym c.is_output.ensures ∙ w.if-is_output.false in
          w.buses-is ∙ ap (set buses i) (bus_with_gain_false c.args.node c.args.out c.args.gain bus is_not) ∙ over_written change c.args.buses.now buses i c.loop-bus-test.true c.loop-bus.auto.buses c.loop-bus.invariant
    ]
