use Rattle.std.proofs.Common.{arith}
use Rattle.slot_tags.proofs.CellSteps.{opens_cell_as}
use Rattle.slot_tags.proofs.step_table.StepTable.open_cell.Goals as goal

pub load-requires : goal.load-requires
load-requires g c =
    let t = c.args.self.now in let words = t.words in let within = t.within in
    (c.requires.at, omega arith, opens_cell_as g.row.J.coded.code t.table.shared.key record { groups = t.groups; last = t.last } t.table.shared.table_id.slots t.keyed t.slots c.args.tag.now.id 0 c.args.tag.now.me c.requires.role)
