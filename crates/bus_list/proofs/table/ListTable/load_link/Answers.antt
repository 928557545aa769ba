use Rattle.std.proofs.Common.{◌*◌, sym, ap, ◌∙◌, subst, arith}
use mathlib.Core.Option.{none}
use Rattle.atomic_table.specs.Table.{Allows, step}
use Rattle.bus_list.specs.Steps.{LoadedLink}
use Rattle.bus_list.specs.Rule.{TableInvariant}
use Rattle.bus_list.proofs.PassSteps.{loads_link_kept}
use Rattle.bus_list.proofs.StepAtTable.{at_table}
use Rattle.bus_list.proofs.table.ListTable.load_link.Goals as goal

pub load-requires : goal.load-requires
load-requires g c =
    let list = c.args.self.now in
    let d = c.deref.ensures in
    let me = c.args.seat.now.me in
    let low = c.requires.held.1 in
    at_table list c.args.seat.now.id me (λ n. n) (λ n. LoadedLink (step n (3 * c.args.held) 0 0 none) me) (ap (λ r. r.shared.key) d ∙ list.keyed) (ap (λ r. r.shared.table_id) d) c.requires.seat.0 (omega arith)
    (subst (λ h. Allows (TableInvariant list.buses) list.buses c.args.seat.now.id me (3 * h) (λ n. n) (LoadedLink (step list.buses (3 * h) 0 0 none) me)) (sym c.requires.held.0)
    (loads_link_kept list.buses c.args.seat.now.id me c.requires.seat.1 c.requires.stepping c.requires.visit.0 c.requires.visit.1 c.requires.settled.0 c.requires.settled.1 c.requires.settled.2))
