use Rattle.std.proofs.Common.{ap}
use Rattle.slot_tags.proofs.slot_table.SlotTable.exchange_job.Goals as goal

pub close_cell-requires-clause-cell : goal.close_cell-requires-clause-cell
close_cell-requires-clause-cell g c = (c.args.new, ap (λ m. m.1) c.change_cell-old.ensures.new)
