use Rattle.slot_tags.specs.Seats.{Same}
use Rattle.slot_tags.specs.Notes.{Missed}
use Rattle.slot_tags.proofs.slot_table.SlotTable.win.Given as goal

abbrev pub invariant-loop-slot : goal.invariant-loop-slot
invariant-loop-slot g l = Same l.initial.tag l.tag × Missed l.slot l.initial.tag.me l.tag.me
