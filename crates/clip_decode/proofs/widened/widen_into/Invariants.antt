-- The samples before number i are written.
use Rattle.std.proofs.Common.{slice_index_or, pos}
use Rattle.clip_decode.specs.Cells.{Appended}
use Rattle.clip_decode.specs.Widened.{widened}
use Rattle.clip_decode.proofs.widened.widen_into.Given as goal

abbrev pub invariant-loop-i : goal.invariant-loop-i
invariant-loop-i l = Appended l.at l.i (λ k. widened (slice_index_or l.samples k (pos 0))) l.initial.out l.out
