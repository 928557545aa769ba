use Rattle.std.proofs.Common.{◌≡◌, ◌<◌, ◌≤◌, ℕ}
use Rattle.std.specs.Prelude.{slice_index}
use Rattle.mix_model.specs.OrderedBuses.{cursor_after}
use Rattle.mix_model.proofs.cursors.advance_cursors.Given as goal

abbrev pub invariant-loop-n : goal.invariant-loop-n
invariant-loop-n l = record {
  moved : (k : ℕ) → k < l.n → slice_index l.cursors k ≡ cursor_after l.nodes l.marks l.frames l.initial.cursors k;
  rest : (k : ℕ) → l.n ≤ k → slice_index l.cursors k ≡ slice_index l.initial.cursors k;
}
