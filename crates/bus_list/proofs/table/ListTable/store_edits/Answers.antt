use Rattle.std.proofs.Common.{◌+◌, ◌*◌, ap, ◌∙◌, arith}
use mathlib.Core.Option.{none}
use Rattle.atomic_table.specs.Table.{step}
use Rattle.bus_list.specs.Steps.{StoredEdits}
use Rattle.bus_list.proofs.EditorSteps.{stores_edits_kept}
use Rattle.bus_list.proofs.StepAtTable.{at_table}
use Rattle.bus_list.proofs.table.ListTable.store_edits.Goals as goal

pub store-requires : goal.store-requires
store-requires g c =
    let list = c.args.self.now in
    let d = c.deref.ensures in
    let me = c.args.seat.now.me in
    at_table list c.args.seat.now.id me (λ _. c.args.edits) (λ n _. StoredEdits (step n (3 * list.buses + 1) c.args.edits 0 none) me c.args.edits) (ap (λ r. r.shared.key) d ∙ list.keyed) (ap (λ r. r.shared.table_id) d) c.requires.seat.0 (omega arith)
    (stores_edits_kept list.buses c.args.seat.now.id me c.requires.seat.1 c.args.bus c.args.edits c.requires.phase c.requires.edits)
