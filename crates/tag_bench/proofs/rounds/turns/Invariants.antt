use Rattle.slot_tags.specs.Tags.{IsSeatOf}
use Rattle.tag_bench.proofs.rounds.turns.Given as goal

abbrev pub invariant-loop-job : goal.invariant-loop-job
invariant-loop-job l = IsSeatOf l.table l.seat
