use Rattle.std.proofs.lemmas.List.{length-set}
use Rattle.std.proofs.Common.{arith, Bool, ◌-◌, ◌+◌, length}
use Rattle.mix_model.specs.OrderedBuses.{plan_of, no_bus}
use Rattle.mix_model.proofs.Marks.{marked_more, marked_all}
use Rattle.mix_model.proofs.pull.mark_pulled.Goals as goal

pub loop-done-preserved : goal.loop-done-preserved
loop-done-preserved c =
    let p = plan_of c.args.nodes.now c.args.ordered_buses.now in
    let count = length c.args.ordered_buses.now in
    let done = c.loop-done.done in
    let at = count - 1 - done in
    let bus = c.requires.ordered_buses.buses_are at no_bus (omega arith) in
    marked_more p c.args.time (count - (done + 1)) at (count - done) c.loop-done.marks c.mark.new.marks (omega arith) (omega arith) c.requires.ordered_buses.no_cycle c.requires.ordered_buses.ordered (omega arith) (omega (arith, length-set {A = Bool}, c.loop-done.auto.marks, c.fill.ensures.len)) bus.to_is c.loop-done.invariant c.mark.ensures

pub returns : goal.returns
returns c =
    let p = plan_of c.args.nodes.now c.args.ordered_buses.now in
    marked_all p c.args.time _ c.loop-done.marks c.requires.ordered_buses.no_cycle (omega arith) c.loop-done.invariant
