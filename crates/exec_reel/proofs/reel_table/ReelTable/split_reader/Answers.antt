use Rattle.exec_reel.specs.Steps.{drawing, new_reader}
use Rattle.exec_reel.proofs.AtTable.{split_at_table}
use Rattle.exec_reel.proofs.ReaderSteps.{splits_reader}
use Rattle.exec_reel.proofs.reel_table.ReelTable.split_reader.Goals as goal

pub split_seat-requires : goal.split_seat-requires
split_seat-requires c =
    let t = c.args.self.now in
    let seat = c.args.seat.now in
    split_at_table t seat.table_id seat.id seat.me.0 (drawing seat.me.0) (new_reader seat.me.0) c.requires.at.0 (splits_reader t.opening seat.id seat.me.0 c.requires.role)
