use Rattle.std.proofs.Common.{◌≡◌, All, true, is_some, vec_len}
use Rattle.slot_tags.specs.Tags.{IsSeatOf, IsTagOf, job_of}
use Rattle.slot_tags_tests.proofs.tables.given_back.Given as goal

abbrev pub invariant-loop-tag : goal.invariant-loop-tag
invariant-loop-tag l = IsSeatOf l.table l.seat × All (λ t. IsTagOf l.table t × (is_some (job_of t) ≡ true)) l.tags.items

abbrev pub decreases-loop-tag : goal.decreases-loop-tag
decreases-loop-tag l = vec_len l.tags
