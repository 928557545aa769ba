use Rattle.std.proofs.Common.{ap, ◌∙◌}
use Rattle.bus_list.specs.declared.view.Phase.TheVariants.{Filled}
use Rattle.bus_list.specs.Transitions.{inserted}
use Rattle.bus_list.specs.Steps.{top_slot}
use Rattle.bus_list.proofs.list_editor.ListEditor.attach.Goals as goal

pub fill_cell-requires-clause-has : goal.fill_cell-requires-clause-has
fill_cell-requires-clause-has g c = (c.args.feed, ap (λ m. m.1) c.exchange_cell-had.ensures.me.1)

pub store_dummy_link-requires-clause-phase : goal.store_dummy_link-requires-clause-phase
store_dummy_link-requires-clause-phase g c = (top_slot c.exchange_cell-had.new.seat.me.1, ap (λ m. m.0.editing.phase) c.fill_cell.ensures.me)

pub set_flag-requires-clause-phase : goal.set_flag-requires-clause-phase
set_flag-requires-clause-phase g c =
    let e = ap (λ m. m.0.editing.phase) c.fill_cell.ensures.me ∙ ap (λ l. Filled c.args.bus (top_slot l)) (ap (λ m. m.1) c.exchange_cell-had.ensures.me.1) in
    (c.args.feed, ap (λ m. m.0.editing.phase) c.store_dummy_link.ensures.me ∙ ap (λ ph. (inserted ph c.fill_cell.new.seat.me.0.editing).phase) e)
