use Rattle.std.proofs.Common.{sym, ap, ◌∙◌, arith}
use Rattle.bus_list.proofs.Sides.{joins}
use Rattle.bus_list.proofs.table.ListTable.join.Goals as goal

pub join_seat-requires : goal.join_seat-requires
join_seat-requires g c =
    let d = c.deref.ensures in
    let words = ap (λ r. r.shared.table_id.words) d ∙ c.args.self.now.words in
    let id = sym (ap (λ r. r.shared.table_id) d) in (
      c.requires.seat.0 ∙ id,
      c.requires.other.0.0 ∙ id,
      c.requires.other.1,
      omega arith,
      joins c.deref.result.now.shared.key c.args.seat.now.id c.args.other.id c.args.seat.now.me.0 c.args.other.me.0 c.requires.seat.1 c.requires.other.0.1,
    )
