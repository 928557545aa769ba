use Rattle.std.proofs.Common.{arith}
use Rattle.live_board.proofs.Moves.{ends_reading}
use Rattle.live_board.proofs.board.Board.load_last_count.Goals as goal

pub load-requires : goal.load-requires
load-requires c =
    let q = c.requires.seat in let ws = c.args.self.now.words_are in
    (q.0, omega arith, ends_reading c.args.self.now.table.shared.key _ _ c.args.seat.now.me q.1 q.2 c.requires.all)
