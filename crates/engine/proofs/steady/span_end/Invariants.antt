use Rattle.std.proofs.Common.{ℕ, ◌<◌, ◌≤◌}
use Rattle.std.specs.Prelude.{slice_index_or}
use Rattle.mix_model.specs.Pulled.{no_node}
use Rattle.mix_model.specs.Spans.{AreApart}
use Rattle.engine.proofs.steady.span_end.Given as goal

abbrev pub invariant-loop-node : goal.invariant-loop-node
invariant-loop-node l = record {
  after : l.time < l.until;
  within : l.until ≤ l.fn.end;
  apart : (k : ℕ) → k < l.node-index → AreApart (slice_index_or l.nodes k no_node) l.time l.until;
}
