use Rattle.std.proofs.Common.{arith}
use Rattle.live_board.proofs.Parting.{hand_in}
use Rattle.live_board.proofs.board.Board.join_hand.Goals as goal

pub join_seat-requires : goal.join_seat-requires
join_seat-requires c =
    let q = c.requires in let ws = c.args.self.now.words_are in
    (q.0, q.1, q.2, omega arith, hand_in c.args.self.now.table.shared.key _ c.args.seat.now.me.0 _ c.args.other.me.0 q.3)
