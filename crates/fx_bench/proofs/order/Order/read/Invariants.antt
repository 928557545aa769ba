use Rattle.std.proofs.Common.{All}
use Rattle.std.specs.Prelude.{IsTrue}
use Rattle.fx_nodes.specs.Effects.{is_in_range}
use Rattle.fx_bench.proofs.order.Order.read.Given as goal

abbrev pub invariant-loop-word : goal.invariant-loop-word
invariant-loop-word l = All (λ effect. IsTrue (is_in_range effect)) l.effects.items
