use Rattle.std.proofs.Common.{true}
use Rattle.slot_tags.specs.Shown.{view_of}
use Rattle.slot_tags.proofs.Badges.{one_view}
use Rattle.slot_tags.proofs.slot_table.SlotTable.give.Goals as goal

pub into_seat-ended-requires : goal.into_seat-ended-requires
into_seat-ended-requires g c =
    let t = c.args.tag in
    (view_of t.badge.views, one_view t.badge.views (true, t.slot, t.number, t.full) t.held)
