use Rattle.exec_reel.specs.Steps.{drawing_next, new_ticket}
use Rattle.exec_reel.proofs.AtTable.{split_at_table}
use Rattle.exec_reel.proofs.DrawSteps.{splits_ticket}
use Rattle.exec_reel.proofs.reel_table.ReelTable.split_ticket.Goals as goal

pub split_seat-requires : goal.split_seat-requires
split_seat-requires c =
    let t = c.args.self.now in
    let seat = c.args.drawer.now in
    split_at_table t seat.table_id seat.id seat.me.0 (drawing_next seat.me.0) (new_ticket seat.me.0) c.requires.at.0 (splits_ticket t.opening seat.id seat.me.0 c.requires.role)
