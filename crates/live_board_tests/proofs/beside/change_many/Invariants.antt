use Rattle.std.proofs.Common.{◌≡◌, length, true, false}
use Rattle.live_board_tests.proofs.beside.change_many.Given as goal

abbrev pub invariant-loop-k : goal.invariant-loop-k
invariant-loop-k l = (l.seat.table_id ≡ l.initial.seat.table_id) × (l.seat.me.0.locks ≡ true) × (l.seat.me.0.lock.stored ≡ false) × (length l.seat.me.0.lock.history ≡ l.k)
