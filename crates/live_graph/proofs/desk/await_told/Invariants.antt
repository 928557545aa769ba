use Rattle.std.proofs.Common.{◌≡◌}
use Rattle.live_board.specs.Steps.{unheard}
use Rattle.live_graph.proofs.desk.await_told.Given as goal

abbrev pub invariant-loop : goal.invariant-loop
invariant-loop g l = (l.seat.table_id ≡ l.fn.seat.table_id) × (unheard l.seat.me ≡ unheard l.fn.seat.me)
