use Rattle.mix_model.proofs.Deepening.{IsPass}
use Rattle.mix_model.proofs.order.deepen.Given as goal

abbrev pub invariant-loop-bus : goal.invariant-loop-bus
invariant-loop-bus l = IsPass l.buses l.bus-index l.initial.depths l.depths l.is_deeper
