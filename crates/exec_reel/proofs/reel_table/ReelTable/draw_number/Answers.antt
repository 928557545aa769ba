use Rattle.std.proofs.Common.{◌+◌, ◌%◌, ◌^◌, arith}
use mathlib.Core.Option.{none}
use Rattle.atomic_table.specs.Table.{step}
use Rattle.exec_reel.specs.Steps.{FetchedAdd}
use Rattle.exec_reel.proofs.AtTable.{at_table}
use Rattle.exec_reel.proofs.DrawSteps.{draws}
use Rattle.exec_reel.proofs.reel_table.ReelTable.draw_number.Goals as goal

pub fetch_add-requires : goal.fetch_add-requires
fetch_add-requires c =
    let t = c.args.self.now in
    let me = c.args.drawer.now.me in
    let left = c.requires.left in
    let counted = t.counted in
    at_table t c.args.drawer.now.table_id c.args.drawer.now.id me 0 (λ n. (n + 1) % 2 ^ 64) (λ slots. FetchedAdd (step slots 0 1 0 none) me) c.requires.at.0 (omega arith)
    (λ slots. draws t.opening slots c.args.drawer.now.id me c.requires.role (omega arith))
