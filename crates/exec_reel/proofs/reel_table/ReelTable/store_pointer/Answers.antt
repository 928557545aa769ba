use Rattle.std.proofs.Common.{arith}
use mathlib.Core.Option.{none}
use Rattle.atomic_table.specs.Table.{step}
use Rattle.exec_reel.specs.Steps.{PointerStored}
use Rattle.exec_reel.proofs.AtTable.{at_table}
use Rattle.exec_reel.proofs.WorkSteps.{stores_pointer}
use Rattle.exec_reel.proofs.reel_table.ReelTable.store_pointer.Goals as goal

pub store-requires : goal.store-requires
store-requires c =
    let t = c.args.self.now in
    let seat = c.args.ticket.now in
    let n = c.args.next in
    at_table t seat.table_id seat.id seat.me 1 (λ _. n) (λ slots _. PointerStored (step slots 1 n 0 none) seat.me n) c.requires.at.0 (omega arith)
    (λ slots. stores_pointer t.opening slots seat.id seat.me n c.requires.role c.requires.next)
