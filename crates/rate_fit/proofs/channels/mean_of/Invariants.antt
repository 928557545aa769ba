-- The sum of the samples so far.
use Rattle.rate_fit.proofs.Means.{IsPartialSum}
use Rattle.rate_fit.proofs.channels.mean_of.Given as goal

abbrev pub invariant-loop-k : goal.invariant-loop-k
invariant-loop-k l = IsPartialSum l.samples l.k l.sum
