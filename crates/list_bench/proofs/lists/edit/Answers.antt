use Rattle.std.proofs.Common.{is_some, refl, ap, ◌∙◌}
use Rattle.bus_list.specs.Visits.{attached_feed}
use Rattle.bus_list.specs.ListViews.{history_of_editor}
use Rattle.bus_list.proofs.Visits.{feed_attached, feed_detached}
use Rattle.list_bench.proofs.lists.edit.Goals as goal

pub detach-requires-clause-on : goal.detach-requires-clause-on
detach-requires-clause-on g c =
    let before = history_of_editor c.args.editor.now in
    let same = ap (λ h. is_some (attached_feed h c.args.bus)) c.attach.ensures.history in
    same ∙ ap (λ x. is_some x) (feed_attached before c.args.bus c.args.feed c.args.bus refl)

pub returns-then-edits-lt-MOST_EDITS-clause-off : goal.returns-then-edits-lt-MOST_EDITS-clause-off
returns-then-edits-lt-MOST_EDITS-clause-off g c =
    let before = history_of_editor c.attach.new.self in
    ap (λ h. attached_feed h c.args.bus) c.detach.ensures.history ∙ feed_detached before c.args.bus c.args.bus refl
