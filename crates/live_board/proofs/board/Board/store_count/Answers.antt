use Rattle.std.proofs.Common.{arith}
use Rattle.live_board.proofs.Moves.{stores_count}
use Rattle.live_board.proofs.board.Board.store_count.Goals as goal

pub store-requires : goal.store-requires
store-requires c =
    let q = c.requires.seat in let ws = c.args.self.now.words_are in
    (q.0, omega arith, stores_count c.args.self.now.table.shared.key _ _ c.args.count c.args.seat.now.me q.1 q.2 c.requires.count)
