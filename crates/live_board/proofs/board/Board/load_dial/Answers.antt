use Rattle.std.proofs.Common.{arith, ◌≡◌, ℕ, ◌+◌, ◌-◌, ap, ◌∙◌, subst, ◌≤◌}
use Rattle.std.specs.Prelude.{slice_index}
use Rattle.live_board.specs.Steps.{dial_read}
use Rattle.live_board.proofs.Moves.{reads_dial}
use Rattle.live_board.proofs.board.Board.load_dial.Goals as goal

pub load-requires : goal.load-requires
load-requires c =
    let q = c.requires.seat in let d = c.requires.dial in let b = d.0 in let ws = c.args.self.now.words_are in
    (q.0, omega arith, reads_dial c.args.self.now.table.shared.key _ _ c.args.dial c.args.seat.now.me q.1 q.2 d.1 b)

pub returns : goal.returns
returns c =
    let e = c.load.ensures in let back : c.args.dial + 1 - 1 ≡ c.args.dial = omega arith in (
      e.0,
      e.2.0 ∙ ap (λ (i : ℕ). (dial_read i c.load.result c.args.seat.now.me.0, c.args.seat.now.me.1)) back,
      subst (λ (i : ℕ). c.load.result ≤ slice_index c.args.seat.now.me.0.mixing.most i) back e.2.1,
    )
