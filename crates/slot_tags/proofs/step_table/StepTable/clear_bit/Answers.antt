use Rattle.std.proofs.Common.{arith}
use Rattle.slot_tags.proofs.BitSteps.{clears_bit_as}
use Rattle.slot_tags.proofs.step_table.StepTable.clear_bit.Goals as goal

pub fetch_and-requires : goal.fetch_and-requires
fetch_and-requires g c =
    let t = c.args.self.now in let inside = c.requires.slot.1 in let words = t.words in
    (c.requires.at, omega arith, clears_bit_as g.row.J.coded.code t.table.shared.key record { groups = t.groups; last = t.last } t.table.shared.table_id.slots c.args.slot inside t.keyed t.slots c.args.tag.now.id c.args.tag.now.me c.requires.role.0 c.requires.role.1 c.requires.slot.0 c.requires.number)
