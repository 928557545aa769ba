use Rattle.std.proofs.Common.{arith, ℕ, ap, ◌∙◌}
use Rattle.live_board.specs.Steps.{dial_stored}
use Rattle.live_board.proofs.Moves.{stores_dial}
use Rattle.live_board.proofs.board.Board.store_dial.Goals as goal

pub store-requires : goal.store-requires
store-requires c =
    let q = c.requires.seat in let d = c.requires.dial in let ws = c.args.self.now.words_are in
    (q.0, omega arith, stores_dial c.args.self.now.table.shared.key _ _ c.args.dial c.args.value c.args.seat.now.me c.requires.value q.1 q.2 d)

pub returns : goal.returns
returns c = let e = c.store.ensures in (e.0, e.2 ∙ ap (λ (i : ℕ). (dial_stored i c.args.value c.args.seat.now.me.0, c.args.seat.now.me.1)) (omega arith))
