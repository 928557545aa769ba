use Rattle.std.proofs.Common.{arith}
use Rattle.live_board.proofs.Moves.{begins_reading}
use Rattle.live_board.proofs.board.Board.load_first_count.Goals as goal

pub load-requires : goal.load-requires
load-requires c =
    let q = c.requires in let ws = c.args.self.now.words_are in
    (q.0, omega arith, begins_reading c.args.self.now.table.shared.key _ _ c.args.seat.now.me q.1)
