use Rattle.live_board.proofs.Moves.{tells}
use Rattle.live_board.proofs.board.Board.store_told.Goals as goal

pub store-requires : goal.store-requires
store-requires c =
    let q = c.requires.seat in let at = c.told_at.ensures in let r = c.requires.word in
    (q.0, at.1, rw at.0 (tells c.args.self.now.table.shared.key _ _ c.args.editor c.args.word r.0 c.args.seat.now.me r.1 q.1 q.2 q.3 c.requires.editor r.2))
