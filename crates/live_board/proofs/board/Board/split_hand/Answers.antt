use Rattle.std.proofs.Common.{arith}
use Rattle.live_board.proofs.Parting.{hands_out}
use Rattle.live_board.proofs.board.Board.split_hand.Goals as goal

pub split_seat-requires : goal.split_seat-requires
split_seat-requires c =
    let q = c.requires in let ws = c.args.self.now.words_are in
    (q.0, omega arith, hands_out c.args.self.now.table.shared.key _ c.args.seat.now.me.0 q.1)
