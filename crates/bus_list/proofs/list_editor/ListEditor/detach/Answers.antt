use Rattle.std.proofs.Common.{ap, ◌∙◌}
use Rattle.bus_list.specs.Visits.{attached_feed}
use Rattle.bus_list.specs.Transitions.{quiesced, unreferenced}
use Rattle.bus_list.proofs.list_editor.ListEditor.detach.Goals as goal

pub wait_for_steps-requires-clause-phase : goal.wait_for_steps-requires-clause-phase
wait_for_steps-requires-clause-phase g c =
    (attached_feed c.args.self.now.seat.me.0.editing.history c.args.bus, ap (λ w. w.phase) c.unlink.ensures.unlinked.editing)

pub wait_for_references-requires-clause-phase : goal.wait_for_references-requires-clause-phase
wait_for_references-requires-clause-phase g c =
    let is_unlinked = ap (λ w. w.phase) c.unlink.ensures.unlinked.editing in
    (attached_feed c.args.self.now.seat.me.0.editing.history c.args.bus, ap (λ w. w.phase) c.wait_for_steps.ensures.only.editing ∙ ap (λ ph. quiesced 0 ph) is_unlinked)

pub take_out-requires-clause-phase : goal.take_out-requires-clause-phase
take_out-requires-clause-phase g c =
    let is_unlinked = ap (λ w. w.phase) c.unlink.ensures.unlinked.editing in
    let is_quiescent = ap (λ w. w.phase) c.wait_for_steps.ensures.only.editing ∙ ap (λ ph. quiesced 0 ph) is_unlinked in
    (attached_feed c.args.self.now.seat.me.0.editing.history c.args.bus, ap (λ w. w.phase) c.wait_for_references.ensures.only.editing ∙ ap (λ ph. unreferenced 0 ph) is_quiescent, c.requires.on)
