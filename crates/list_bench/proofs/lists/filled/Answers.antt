use Rattle.std.proofs.Common.{◌+◌, [], ◌∷◌, length, ap, ◌∙◌, arith, length-append}
use Rattle.bus_list.specs.declared.history.Entry.TheVariants.{On}
use Rattle.bus_list.specs.Visits.{attached_feed}
use Rattle.bus_list.specs.ListViews.{history_of}
use Rattle.bus_list.proofs.Visits.{feed_else}
use Rattle.list_bench.proofs.lists.filled.Goals as goal

pub loop-bus-preserved : goal.loop-bus-preserved
loop-bus-preserved c =
    let before = history_of c.loop-bus.both in
    let bus = c.loop-bus.bus in
    let so_far = c.loop-bus.invariant in
    let made = c.attach.ensures.history in
    let size = ap (λ h. length h) made ∙ length-append before (On bus (bus + 1) ∷ []) in (
      c.attach.ensures.buses ∙ so_far.0,
      size ∙ ap (λ n. n + 1) so_far.1,
      λ b low. ap (λ h. attached_feed h b) made ∙ (feed_else before (On bus (bus + 1)) b (λ e. absurd (omega arith)) ∙ so_far.2 b (omega arith)),
    )
