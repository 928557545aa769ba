use Rattle.std.proofs.Common.{None, subst, Bool}
use Rattle.scene_model.specs.declared.bus.Bus.{Bus}
use Rattle.scene_model.proofs.Marking.{IsRound, round_none, round_marked, round_same, round_settled}
use Rattle.scene_model.proofs.reach.mark_targets.Goals as goal
use Rattle.scene_model.proofs.reach.mark_targets.Goals.{then-mark_target, else-mark_target}

-- the default of a read past the end
abbrev no_bus : Bus
no_bus = record { node = 0; out = 0; to = None; gain = 0 }

pub loop-bus-init : goal.loop-bus-init
loop-bus-init c = round_none _ _

pub loop-bus-preserved : goal.loop-bus-preserved
loop-bus-preserved c =
    elim c.if-mark_target.branch [
      | then-mark_target w ↦ rw w.is_new-is (round_marked _ _ no_bus _ _ _ _ c.loop-bus-test.true c.loop-bus.invariant (c.mark_target.ensures.marked w.if-mark_target.true))
      | else-mark_target w ↦ rw w.is_new-is (round_same _ _ no_bus _ _ _ _ c.loop-bus-test.true c.loop-bus.invariant (c.mark_target.ensures.same w.if-mark_target.false) (c.mark_target.ensures.settled w.if-mark_target.false))
    ]

pub returns-clause-settled : goal.returns-clause-settled
returns-clause-settled c =
    λ e. round_settled _ c.loop-bus.bus-index _ _ c.loop-bus-test.false (subst (λ (b : Bool). IsRound c.args.buses.now c.loop-bus.bus-index c.args.marks.now c.loop-bus.marks b) e c.loop-bus.invariant)
