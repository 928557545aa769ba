use Rattle.std.proofs.Common.{◌+◌, ◌*◌, ◌%◌, ◌^◌, ap, ◌∙◌, arith}
use mathlib.Core.Option.{none}
use Rattle.atomic_table.specs.Table.{step}
use Rattle.bus_list.specs.Steps.{EnteredStep}
use Rattle.bus_list.proofs.PassSteps.{enters_step_kept}
use Rattle.bus_list.proofs.StepAtTable.{at_table}
use Rattle.bus_list.proofs.table.ListTable.enter_step.Goals as goal

pub fetch_add-requires : goal.fetch_add-requires
fetch_add-requires g c =
    let list = c.args.self.now in
    let d = c.deref.ensures in
    let me = c.args.seat.now.me in
    at_table list c.args.seat.now.id me (λ n. (n + 1) % 2 ^ 64) (λ n. EnteredStep (step n (3 * list.buses + 2) 1 0 none) me) (ap (λ r. r.shared.key) d ∙ list.keyed) (ap (λ r. r.shared.table_id) d) c.requires.seat.0 (omega arith)
    (enters_step_kept list.buses c.args.seat.now.id me c.requires.seat.1 c.requires.stepping)
