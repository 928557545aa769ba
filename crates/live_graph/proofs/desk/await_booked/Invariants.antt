use Rattle.std.proofs.Common.{◌≡◌}
use Rattle.live_board.specs.Steps.{unfound}
use Rattle.live_graph.proofs.desk.await_booked.Given as goal

abbrev pub invariant-loop : goal.invariant-loop
invariant-loop g l = (l.seat.table_id ≡ l.fn.seat.table_id) × (unfound l.seat.me ≡ unfound l.fn.seat.me)
