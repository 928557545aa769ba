use Rattle.std.proofs.Common.{refl, arith}
use Rattle.mix_model.specs.OrderedBuses.{frame_state_of, no_bus}
use Rattle.mix_model.proofs.Sums.{added_more, added_all}
use Rattle.mix_model.proofs.frame.inputs.Goals as goal

pub loop-bus-preserved : goal.loop-bus-preserved
loop-bus-preserved c =
    let m = frame_state_of c.args.nodes.now c.args.ordered_buses.now c.args.time c.args.clips.now c.args.cursors.now in
    let ordered_buses = c.args.ordered_buses.now in
    let i = c.loop-bus.bus-index in
    let bus = c.requires.ordered_buses.buses_are i no_bus c.loop-bus-test.true in
    record {
      sums_are = added_more m c.args.channel ordered_buses c.loop-bus.sums c.add_share.new.sums i refl c.requires.ordered_buses.no_cycle c.requires.ordered_buses.ordered c.loop-bus-test.true (omega (arith, bus.node_is)) c.add_share.auto.sums c.loop-bus.invariant.sums_are (c.add_share.ensures.added ordered_buses);
      within = c.add_share.ensures.within i c.loop-bus.invariant.within;
    }

pub returns : goal.returns
returns c =
    let m = frame_state_of c.args.nodes.now c.args.ordered_buses.now c.args.time c.args.clips.now c.args.cursors.now in
    λ n le. added_all m c.args.channel c.args.ordered_buses.now c.loop-bus.sums c.loop-bus.bus-index n refl c.requires.ordered_buses.no_cycle c.loop-bus-test.false (c.loop-bus.invariant.sums_are n (omega arith))
