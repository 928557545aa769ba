use Rattle.scene_model.proofs.Marking.{IsRound}
use Rattle.scene_model.proofs.reach.mark_targets.Given as goal

abbrev pub invariant-loop-bus : goal.invariant-loop-bus
invariant-loop-bus l = IsRound l.buses l.bus-index l.initial.marks l.marks l.is_new
