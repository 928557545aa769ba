use Rattle.std.proofs.Common.{◌≡◌, true, All}
use Rattle.live_board.specs.Rule.{replies_of}
use Rattle.live_graph.specs.Runs.{HandData}
use Rattle.live_graph.proofs.desk.join_hands.Given as goal

abbrev pub invariant-loop-hand : goal.invariant-loop-hand
invariant-loop-hand g l = record {
  table_is : l.seat.table_id ≡ l.fn.seat.table_id;
  locks : l.seat.me.0.locks ≡ true;
  lock_is : l.seat.me.0.lock ≡ l.fn.seat.me.0.lock;
  good : All (λ (h : HandData). replies_of h.editor l.fn.seat.me.0.lock.journal ≡ h.replies) l.yielded;
}
