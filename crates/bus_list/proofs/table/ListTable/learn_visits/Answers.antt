use Rattle.std.proofs.Common.{ap, ◌∙◌, arith}
use mathlib.Core.Option.{none}
use Rattle.atomic_table.specs.Table.{step}
use Rattle.bus_list.specs.Steps.{Learnt}
use Rattle.bus_list.proofs.Sides.{learns}
use Rattle.bus_list.proofs.StepAtTable.{at_table}
use Rattle.bus_list.proofs.table.ListTable.learn_visits.Goals as goal

pub load-requires : goal.load-requires
load-requires g c =
    let list = c.args.self.now in
    let d = c.deref.ensures in
    let me = c.args.seat.now.me in
    at_table list c.args.seat.now.id me (λ n. n) (λ n. Learnt (step n 0 0 0 none) me) (ap (λ r. r.shared.key) d ∙ list.keyed) (ap (λ r. r.shared.table_id) d) c.requires.seat.0.0 (omega arith)
    (learns list.buses c.args.seat.now.id 0 me c.requires.seat.0.1 c.requires.seat.1.1)
