use Rattle.std.proofs.Common.{arith}
use Rattle.slot_tags.proofs.CountSteps.{counts_up_as}
use Rattle.slot_tags.proofs.step_table.StepTable.count_up.Goals as goal

pub fetch_add-requires : goal.fetch_add-requires
fetch_add-requires g c =
    let t = c.args.self.now in let inside = c.requires.slot.1 in let words = t.words in
    (c.requires.at, omega arith, counts_up_as g.row.J.coded.code t.table.shared.key record { groups = t.groups; last = t.last } t.table.shared.table_id.slots c.args.slot inside t.keyed t.slots c.args.tag.now.id c.args.tag.now.me c.requires.role c.requires.slot.0)
