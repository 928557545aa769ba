use Rattle.std.proofs.Common.{arith}
use mathlib.Core.Option.{none}
use Rattle.atomic_table.specs.Table.{step}
use Rattle.exec_reel.specs.Steps.{PageWentOut}
use Rattle.exec_reel.proofs.AtTable.{at_table}
use Rattle.exec_reel.proofs.WorkSteps.{takes_page}
use Rattle.exec_reel.proofs.reel_table.ReelTable.take_page.Goals as goal

pub load-requires : goal.load-requires
load-requires c =
    let t = c.args.self.now in
    let seat = c.args.ticket.now in
    at_table t seat.table_id seat.id seat.me 1 (λ n. n) (λ slots. PageWentOut (step slots 1 0 0 none) seat.me) c.requires.at.0 (omega arith)
    (λ slots. takes_page t.opening slots seat.id seat.me c.requires.role)
