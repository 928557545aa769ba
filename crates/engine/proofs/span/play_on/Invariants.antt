use Rattle.std.proofs.Common.{◌≡◌, ◌<◌, ◌≤◌, ℕ}
use Rattle.std.specs.Prelude.{slice_index, slice_index_or}
use Rattle.mix_model.specs.OrderedBuses.{mark_at}
use Rattle.mix_model.specs.Pulled.{no_node}
use Rattle.mix_model.specs.Spans.{cursor_in}
use Rattle.engine.proofs.span.play_on.Given as goal

abbrev pub invariant-loop-n : goal.invariant-loop-n
invariant-loop-n l = record {
  moved : (k : ℕ) → k < l.n → slice_index l.cursors k ≡ cursor_in (mark_at l.marks k) (slice_index l.frames k) (slice_index_or l.nodes k no_node).looped (slice_index l.initial.cursors k) l.count;
  rest : (k : ℕ) → l.n ≤ k → slice_index l.cursors k ≡ slice_index l.initial.cursors k;
}
