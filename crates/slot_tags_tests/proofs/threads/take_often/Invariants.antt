use Rattle.slot_tags.specs.Tags.{IsSeatOf}
use Rattle.slot_tags_tests.proofs.threads.take_often.Given as goal

abbrev pub invariant-loop-round : goal.invariant-loop-round
invariant-loop-round l = IsSeatOf l.table l.seat
