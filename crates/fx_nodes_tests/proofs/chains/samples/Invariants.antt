use Rattle.std.proofs.Common.{All}
use Rattle.mix_fixed.specs.Sound.{Is24}
use Rattle.fx_nodes_tests.proofs.chains.samples.Given as goal

abbrev pub invariant-loop-sample : goal.invariant-loop-sample
invariant-loop-sample l = All Is24 l.samples.items
