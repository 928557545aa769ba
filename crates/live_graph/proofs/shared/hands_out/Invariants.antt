use Rattle.std.proofs.Common.{◌≡◌, []}
use Rattle.live_graph.specs.Runs.{new_hands, handed_out}
use Rattle.live_graph.proofs.shared.hands_out.Given as goal

abbrev pub invariant-loop-editor : goal.invariant-loop-editor
invariant-loop-editor g l = record {
  hands_are : l.hands.items ≡ new_hands l.editor;
  table_is : l.seat.table_id ≡ l.fn.seat.table_id;
  seat_is : l.seat.me ≡ (handed_out l.editor l.fn.seat.me.0, []);
}
