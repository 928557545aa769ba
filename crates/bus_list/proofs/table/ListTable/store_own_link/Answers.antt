use Rattle.std.proofs.Common.{◌*◌, ap, ◌∙◌, arith}
use mathlib.Core.Option.{none}
use Rattle.atomic_table.specs.Table.{step}
use Rattle.bus_list.specs.Steps.{StoredOwnLink}
use Rattle.bus_list.proofs.EditorSteps.{stores_own_link_kept}
use Rattle.bus_list.proofs.StepAtTable.{at_table}
use Rattle.bus_list.proofs.table.ListTable.store_own_link.Goals as goal

pub store-requires : goal.store-requires
store-requires g c =
    let list = c.args.self.now in
    let d = c.deref.ensures in
    let me = c.args.seat.now.me in
    let low = c.requires.bus.0 in
    at_table list c.args.seat.now.id me (λ _. c.args.link) (λ n _. StoredOwnLink (step n (3 * c.args.bus) c.args.link 0 none) me c.args.link) (ap (λ r. r.shared.key) d ∙ list.keyed) (ap (λ r. r.shared.table_id) d) c.requires.seat.0 (omega arith)
    (stores_own_link_kept list.buses c.args.seat.now.id me c.requires.seat.1 c.args.bus c.args.link c.requires.bus.0 c.requires.bus.1 c.requires.idle c.requires.link)
