use Rattle.live_board.proofs.Moves.{hears_as}
use Rattle.live_board.proofs.board.hear.Goals as goal

pub load-requires : goal.load-requires
load-requires g c =
    let q = c.requires.seat in let at = c.told_at.ensures in
    (q.0, at.1, rw at.0 (hears_as c.args.board.now.table.shared.key _ _ c.args.editor g.B.Whose.editor c.args.seat.now.me q.1 c.requires.whose))
