use Rattle.std.proofs.Common.{◌∷◌, ap, ◌∙◌}
use Rattle.bus_list.specs.Steps.{payload}
use Rattle.bus_list.proofs.detaching.take_out.Goals as goal

pub take_cell-requires-clause-phase : goal.take_cell-requires-clause-phase
take_cell-requires-clause-phase g c = (c.requires.phase.0, c.requires.phase.1)

pub exchange_cell-had-requires-clause-has : goal.exchange_cell-had-requires-clause-has
exchange_cell-had-requires-clause-has g c =
    let feed = payload c.args.seat.now.me.0.editing.phase in
    (feed, ap (λ m. m.1) c.take_cell.ensures.me ∙ ap (λ l. (c.args.bus, feed) ∷ l) c.requires.seat.1)
