use Rattle.std.proofs.Common.{◌≡◌, drop, max, fold}
use Rattle.std.specs.Prelude.{unsigned_abs}
use Rattle.mix_model.proofs.summary.peak_from.Given as goal

abbrev pub invariant-loop-sample : goal.invariant-loop-sample
invariant-loop-sample l =
    fold (λ m x. max m (unsigned_abs x)) l.peak (drop l.sample-index l.samples) ≡ fold (λ m x. max m (unsigned_abs x)) l.fn.greatest l.samples
