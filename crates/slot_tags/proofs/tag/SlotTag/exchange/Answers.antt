use Rattle.std.proofs.Common.{true, ap, ◌∙◌}
use Rattle.slot_tags.specs.Shown.{view_of}
use Rattle.slot_tags.proofs.Badges.{one_view}
use Rattle.slot_tags.proofs.tag.SlotTag.exchange.Goals as goal

pub into_seat-seat-requires : goal.into_seat-seat-requires
into_seat-seat-requires g c =
    let t = c.args.self.now in
    (view_of t.badge.views, ap (λ b. b.views) c.replace.ensures.value ∙ one_view t.badge.views (true, t.slot, t.number, t.full) t.held)
