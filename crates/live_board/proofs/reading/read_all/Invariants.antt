use Rattle.std.proofs.Common.{◌≡◌, ◌<◌, ◌≤◌, ℕ, length, take, get_or}
use Rattle.live_board.specs.Steps.{reading_so_far}
use Rattle.live_board.proofs.reading.read_all.Given as goal

abbrev pub invariant-loop-i : goal.invariant-loop-i
invariant-loop-i l = record {
  table_is : l.seat.table_id ≡ l.initial.seat.table_id;
  same_slots : l.seat.me.1 ≡ l.fn.seat.me.1;
  len_is : length l.out ≡ length l.initial.out;
  in_range : (j : ℕ) → j < l.i → get_or l.out j 0 ≤ get_or l.fn.seat.me.0.mixing.most j 0;
  view_is : l.seat.me.0 ≡ reading_so_far l.from (take l.i l.out) l.fn.seat.me.0;
}
