use Rattle.std.proofs.Common.{◌≡◌, [], true}
use Rattle.live_board_tests.proofs.beside.read_many.Given as goal

abbrev pub invariant-loop : goal.invariant-loop
invariant-loop l = (l.seat.table_id ≡ l.initial.seat.table_id) × (l.seat.me.0.mixes ≡ true) × (l.seat.me.1 ≡ [])
