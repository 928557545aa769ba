use Rattle.std.proofs.Common.{arith}
use mathlib.Core.Option.{none}
use Rattle.atomic_table.specs.Table.{step}
use Rattle.exec_reel.specs.Steps.{PageCameIn}
use Rattle.exec_reel.proofs.AtTable.{at_table}
use Rattle.exec_reel.proofs.WorkSteps.{returns_page}
use Rattle.exec_reel.proofs.reel_table.ReelTable.return_page.Goals as goal

pub load-requires : goal.load-requires
load-requires c =
    let t = c.args.self.now in
    let seat = c.args.ticket.now in
    at_table t seat.table_id seat.id seat.me 1 (λ n. n) (λ slots. PageCameIn (step slots 1 0 0 none) seat.me) c.requires.at.0 (omega arith)
    (λ slots. returns_page t.opening slots seat.id seat.me c.requires.role c.requires.page)
