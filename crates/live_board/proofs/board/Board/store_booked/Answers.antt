use Rattle.live_board.proofs.Moves.{books}
use Rattle.live_board.proofs.board.Board.store_booked.Goals as goal

pub store-requires : goal.store-requires
store-requires c =
    let q = c.requires.seat in let at = c.booked_at.ensures in let r = c.requires.heard in
    (q.0, at.1, rw at.0 (books c.args.self.now.table.shared.key _ _ c.args.editor c.args.count r.0 c.args.seat.now.me q.1 q.2 c.requires.editor r.1 c.requires.count))
