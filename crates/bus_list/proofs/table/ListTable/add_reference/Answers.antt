use Rattle.std.proofs.Common.{◌+◌, ◌*◌, ◌%◌, ◌^◌, sym, ap, ◌∙◌, subst, arith}
use mathlib.Core.Option.{none}
use Rattle.atomic_table.specs.Table.{Allows, step}
use Rattle.bus_list.specs.Steps.{AddedReference}
use Rattle.bus_list.specs.Rule.{TableInvariant}
use Rattle.bus_list.proofs.PassSteps.{adds_reference_kept}
use Rattle.bus_list.proofs.StepAtTable.{at_table}
use Rattle.bus_list.proofs.table.ListTable.add_reference.Goals as goal

pub fetch_add-requires : goal.fetch_add-requires
fetch_add-requires g c =
    let list = c.args.self.now in
    let d = c.deref.ensures in
    let me = c.args.seat.now.me in
    let low = c.requires.aim.1 in
    at_table list c.args.seat.now.id me (λ n. (n + 1) % 2 ^ 64) (λ n. AddedReference (step n (3 * c.args.bus + 2) 1 0 none) me) (ap (λ r. r.shared.key) d ∙ list.keyed) (ap (λ r. r.shared.table_id) d) c.requires.seat.0 (omega arith)
    (subst (λ h. Allows (TableInvariant list.buses) list.buses c.args.seat.now.id me (3 * h + 2) (λ n. (n + 1) % 2 ^ 64) (AddedReference (step list.buses (3 * h + 2) 1 0 none) me)) (sym c.requires.aim.0)
    (adds_reference_kept list.buses c.args.seat.now.id me c.requires.seat.1 (λ e. let a = c.requires.aim in absurd (omega arith)) c.requires.previous))
