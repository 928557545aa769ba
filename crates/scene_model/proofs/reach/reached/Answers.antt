use Rattle.std.proofs.Common.{◌+◌, arith, refl}
use Rattle.scene_model.specs.Limits as limits
use Rattle.scene_model.proofs.Marking.{first_start, first_reached, marks_are}
use Rattle.scene_model.proofs.reach.reached.Goals as goal

pub loop-init : goal.loop-init
loop-init c = record {
  start = first_start (limits.most_nodes + 1) c.args.from (omega arith);
  reached = first_reached c.args.buses.now (limits.most_nodes + 1) c.args.from (omega arith);
}

pub returns : goal.returns
returns c =
    let marks = c.mark_targets.new.marks in
    let start = c.loop-test.ensures.kept c.args.from c.loop.invariant.start in
    let reached = c.loop-test.ensures.reached c.args.from c.loop.invariant.reached in
    λ to _. marks_are c.args.buses.now c.args.from marks start reached (c.loop-test.ensures.settled refl) to
