use Rattle.std.proofs.Common.{sym, ap, ◌∙◌, arith}
use mathlib.Core.Option.{none}
use Rattle.atomic_table.specs.Table.{step}
use Rattle.exec_reel.specs.ClipPages.{page_total}
use Rattle.exec_reel.specs.Steps.{CursorCameIn}
use Rattle.exec_reel.proofs.AtTable.{at_table}
use Rattle.exec_reel.proofs.WorkSteps.{returns_cursor}
use Rattle.exec_reel.proofs.reel_table.ReelTable.return_cursor.Goals as goal

pub load-requires : goal.load-requires
load-requires c =
    let t = c.args.self.now in
    let seat = c.args.ticket.now in
    at_table t seat.table_id seat.id seat.me 1 (λ n. n) (λ slots. CursorCameIn (step slots 1 0 0 none) seat.me) c.requires.at.0 (omega arith)
    (λ slots. returns_cursor t.opening slots seat.id seat.me t.pages c.requires.cursor.0 c.requires.role (t.counted ∙ ap page_total (sym c.requires.at.1)) c.requires.cursor.1 c.requires.cursor.2)
