use Rattle.std.proofs.Common.{◌*◌, ap, ◌∙◌, arith}
use mathlib.Core.Option.{none}
use Rattle.atomic_table.specs.Table.{step}
use Rattle.bus_list.specs.Steps.{OpenedCell}
use Rattle.bus_list.proofs.EditorSteps.{opens_cell_kept}
use Rattle.bus_list.proofs.StepAtTable.{at_table}
use Rattle.bus_list.proofs.table.ListTable.open_cell.Goals as goal

pub load-requires : goal.load-requires
load-requires g c =
    let list = c.args.self.now in
    let d = c.deref.ensures in
    let me = c.args.seat.now.me in
    let low = c.requires.bus in
    at_table list c.args.seat.now.id me (λ n. n) (λ n. OpenedCell (step n (3 * c.args.bus) 0 0 none) me) (ap (λ r. r.shared.key) d ∙ list.keyed) (ap (λ r. r.shared.table_id) d) c.requires.seat.0 (omega arith)
    (opens_cell_kept list.buses c.args.seat.now.id me c.requires.seat.1 (3 * c.args.bus) c.args.bus c.requires.phase)
