use Rattle.std.proofs.Common.{arith}
use Rattle.slot_tags.proofs.SeatSteps.{splits_slot_seat_as}
use Rattle.slot_tags.proofs.step_table.StepTable.split_slot_seat.Goals as goal

pub split_seat-requires : goal.split_seat-requires
split_seat-requires g c =
    let t = c.args.self.now in let words = t.words in let within = t.within in
    (c.requires.at, omega arith, splits_slot_seat_as g.row.J.coded.code t.table.shared.key record { groups = t.groups; last = t.last } t.keyed c.args.seat.now.id c.args.seat.now.me.0 c.requires.role)
