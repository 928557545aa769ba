use Rattle.std.proofs.Common.{ℕ, ◌*◌, length, take}
use Rattle.mix_fixed.specs.Kernels.{AreWithin}
use Rattle.engine.specs.Span.{Span, AreSums, IsFed, buses_at}
use Rattle.engine.proofs.feeds.mix_few.Given as goal

abbrev pub invariant-loop-number : goal.invariant-loop-number
invariant-loop-number l = record {
  sums_are : (s : Span) (n : ℕ) → IsFed s n l.time (length l.sums) l.nodes (buses_at l.buses l.numbers) l.kept →
      AreSums s (length l.sums) n (take l.number-index (buses_at l.buses l.numbers)) l.sums;
  within : AreWithin (l.number-index * 134217728) l.sums;
}
