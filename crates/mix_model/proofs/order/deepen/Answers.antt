use Rattle.std.proofs.Common.{arith}
use Rattle.mix_model.specs.OrderedBuses.{no_bus}
use Rattle.mix_model.proofs.Deepening.{pass_deeper, pass_same}
use Rattle.mix_model.proofs.order.deepen.Goals as goal
use Rattle.mix_model.proofs.order.deepen.Goals.{then-deepen_target, else-deepen_target}

pub loop-bus-preserved : goal.loop-bus-preserved
loop-bus-preserved c =
    let buses = c.args.buses.now in
    let i = c.loop-bus.bus-index in
    let bus = c.requires.buses i no_bus c.loop-bus-test.true in
    elim c.if-deepen_target.branch [
      | then-deepen_target w ↦ rw w.is_deeper-is (pass_deeper buses i c.args.depths.now c.loop-bus.depths c.deepen_target.new.depths no_bus c.loop-bus.is_deeper c.loop-bus-test.true (omega (arith, bus.node_is)) (λ to e. omega (arith, bus.to_is to e)) c.loop-bus.invariant (c.deepen_target.ensures.deeper w.if-deepen_target.true))
      | else-deepen_target w ↦
          let same = c.deepen_target.ensures.settled w.if-deepen_target.false in
          rw w.is_deeper-is (pass_same buses i c.args.depths.now c.loop-bus.depths c.deepen_target.new.depths no_bus c.loop-bus.is_deeper c.loop-bus-test.true c.loop-bus.invariant same.0 same.1)
    ]
