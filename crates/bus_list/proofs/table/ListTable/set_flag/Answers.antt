use Rattle.std.proofs.Common.{◌+◌, ◌*◌, ap, ◌∙◌, arith}
use mathlib.Core.Option.{none}
use Rattle.atomic_table.specs.Table.{step}
use Rattle.bus_list.specs.Steps.{SetFlag}
use Rattle.bus_list.proofs.EditorSteps.{sets_flag_kept}
use Rattle.bus_list.proofs.StepAtTable.{at_table}
use Rattle.bus_list.proofs.table.ListTable.set_flag.Goals as goal

pub store-requires : goal.store-requires
store-requires g c =
    let list = c.args.self.now in
    let d = c.deref.ensures in
    let me = c.args.seat.now.me in
    let low = c.requires.bus in
    at_table list c.args.seat.now.id me (λ _. 1) (λ n _. SetFlag (step n (3 * c.args.bus + 1) 1 0 none) me 1) (ap (λ r. r.shared.key) d ∙ list.keyed) (ap (λ r. r.shared.table_id) d) c.requires.seat.0 (omega arith)
    (sets_flag_kept list.buses c.args.seat.now.id me c.requires.seat.1 c.args.bus c.requires.phase.0 c.requires.phase.1)
