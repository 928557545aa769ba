use Rattle.std.proofs.Common.{◌+◌, ◌-◌, ◌*◌, ◌%◌, ◌^◌, sym, ap, ◌∙◌, subst, arith}
use mathlib.Core.Option.{none}
use Rattle.atomic_table.specs.Table.{Allows, step}
use Rattle.bus_list.specs.Steps.{SubtractedReference}
use Rattle.bus_list.specs.Rule.{TableInvariant}
use Rattle.bus_list.proofs.PassSteps.{subtracts_reference_kept}
use Rattle.bus_list.proofs.StepAtTable.{at_table}
use Rattle.bus_list.proofs.table.ListTable.subtract_reference.Goals as goal

pub fetch_sub-requires : goal.fetch_sub-requires
fetch_sub-requires g c =
    let list = c.args.self.now in
    let d = c.deref.ensures in
    let me = c.args.seat.now.me in
    let low = c.requires.previous.1 in
    at_table list c.args.seat.now.id me (λ n. (n + (2 ^ 64 - 1)) % 2 ^ 64) (λ n. SubtractedReference (step n (3 * c.args.bus + 2) 1 0 none) me) (ap (λ r. r.shared.key) d ∙ list.keyed) (ap (λ r. r.shared.table_id) d) c.requires.seat.0 (omega arith)
    (subst (λ h. Allows (TableInvariant list.buses) list.buses c.args.seat.now.id me (3 * h + 2) (λ n. (n + (2 ^ 64 - 1)) % 2 ^ 64) (SubtractedReference (step list.buses (3 * h + 2) 1 0 none) me)) (sym c.requires.previous.0)
    (subtracts_reference_kept list.buses c.args.seat.now.id me c.requires.seat.1 (λ e. let a = c.requires.previous in absurd (omega arith)) (λ e. c.requires.returned (e ∙ sym c.requires.previous.0))))
