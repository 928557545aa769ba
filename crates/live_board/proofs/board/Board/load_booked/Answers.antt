use Rattle.live_board.proofs.Moves.{checks}
use Rattle.live_board.proofs.board.Board.load_booked.Goals as goal

pub load-requires : goal.load-requires
load-requires c =
    let q = c.requires.seat in let at = c.booked_at.ensures in
    (q.0, at.1, rw at.0 (checks c.args.self.now.table.shared.key _ _ c.args.editor c.args.seat.now.me q.1 q.2))
