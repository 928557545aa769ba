use Rattle.std.proofs.Common.{◌≡◌, All, true, is_some}
use Rattle.slot_tags.specs.Tags.{IsSeatOf, IsTagOf, job_of}
use Rattle.slot_tags_tests.proofs.tables.taken.Given as goal

abbrev pub invariant-loop-job : goal.invariant-loop-job
invariant-loop-job l = IsSeatOf l.table l.seat × All (λ t. IsTagOf l.table t × (is_some (job_of t) ≡ true)) l.tags.items
