use Rattle.std.proofs.Common.{◌-◌, length}
use Rattle.mix_model.specs.OrderedBuses.{plan_of}
use Rattle.mix_model.proofs.Marks.{IsMarkedBy}
use Rattle.mix_model.proofs.pull.mark_pulled.Given as goal

abbrev pub invariant-loop-done : goal.invariant-loop-done
invariant-loop-done l = IsMarkedBy (plan_of l.nodes l.ordered_buses) l.time (length l.ordered_buses - l.done) l.marks
