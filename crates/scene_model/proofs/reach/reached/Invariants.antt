use Rattle.std.proofs.Common.{◌≡◌, true}
use Rattle.scene_model.specs.Marks.{mark, AreReached, unmarked}
use Rattle.scene_model.proofs.reach.reached.Given as goal

abbrev pub invariant-loop : goal.invariant-loop
invariant-loop l = record {
  start : mark l.marks l.from ≡ true;
  reached : AreReached l.buses l.from l.marks;
}

abbrev pub decreases-loop : goal.decreases-loop
decreases-loop l = unmarked l.marks
