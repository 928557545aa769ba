use Rattle.std.proofs.Common.{arith}
use Rattle.slot_tags.proofs.SeatSteps.{joins_as}
use Rattle.slot_tags.proofs.step_table.StepTable.join_tag.Goals as goal

pub join_seat-requires : goal.join_seat-requires
join_seat-requires g c =
    let t = c.args.self.now in let words = t.words in let within = t.within in
    (c.requires.at.0, c.requires.at.1, c.requires.cell, omega arith, joins_as g.row.J.coded.code t.table.shared.key record { groups = t.groups; last = t.last } t.keyed c.args.seat.now.id c.args.seat.now.me.0 c.requires.role c.args.tag.id c.args.tag.me.0 c.requires.ends)
