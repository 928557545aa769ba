use Rattle.std.proofs.Common.{sym, ap, ◌∙◌, arith}
use Rattle.bus_list.proofs.Sides.{splits}
use Rattle.bus_list.proofs.table.ListTable.split.Goals as goal

pub split_seat-requires : goal.split_seat-requires
split_seat-requires g c =
    let d = c.deref.ensures in
    let words = ap (λ r. r.shared.table_id.words) d ∙ c.args.self.now.words in
    let seat = c.requires.seat in (
      seat.0.0 ∙ sym (ap (λ r. r.shared.table_id) d),
      omega arith,
      splits c.deref.result.now.shared.key c.args.seat.now.id c.args.seat.now.me.0 seat.0.1 seat.1.1 c.requires.idle.0 c.requires.idle.1,
    )
