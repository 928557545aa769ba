use Rattle.std.proofs.Common.{◌≡◌, ◌∙◌, ap, length, take, arith, List, sym}
use Rattle.std.specs.List.{flat_map}
use Rattle.std.proofs.lemmas.List.{take_all}
use Rattle.scene_model.specs.declared.bus.Bus.{Bus}
use Rattle.scene_view.specs.Wiring.{bus_line, bus_lines}
use Rattle.scene_view.proofs.picture.bus_lines.Goals as goal

pub returns : goal.returns
unfolding bus_lines
returns c =
    let buses = c.buses-bus-items.result.now in
    c.loop-bus.invariant
    ∙ ap (flat_map (bus_line c.args.plan.now c.args.frame)) (take_all c.loop-bus.bus-index buses c.loop-bus-test.false)
    ∙ ap (flat_map (bus_line c.args.plan.now c.args.frame)) c.buses-bus-items.ensures.value
