use Rattle.std.proofs.Common.{◌*◌, ap, ◌∙◌, arith}
use mathlib.Core.Option.{none}
use Rattle.atomic_table.specs.Table.{step}
use Rattle.bus_list.specs.Steps.{TookFeed}
use Rattle.bus_list.proofs.PassSteps.{takes_feed_kept}
use Rattle.bus_list.proofs.StepAtTable.{at_table}
use Rattle.bus_list.proofs.table.ListTable.take_feed.Goals as goal

pub load-requires : goal.load-requires
load-requires g c =
    let list = c.args.self.now in
    let d = c.deref.ensures in
    let me = c.args.seat.now.me in
    let low = c.requires.held.1 in
    at_table list c.args.seat.now.id me (λ n. n) (λ n. TookFeed (step n (3 * c.args.bus) 0 0 none) me) (ap (λ r. r.shared.key) d ∙ list.keyed) (ap (λ r. r.shared.table_id) d) c.requires.seat.0 (omega arith)
    (takes_feed_kept list.buses c.args.seat.now.id me c.requires.seat.1 (3 * c.args.bus) (λ e. let a = c.requires.held in absurd (omega arith)) c.requires.found_set c.requires.borrowed)
