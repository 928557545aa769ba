use Rattle.std.proofs.Common.{ap}
use Rattle.bus_list.specs.Visits.{attached_feed}
use Rattle.bus_list.proofs.detaching.unlink.Goals as goal

pub store_predecessor_link-requires-clause-phase : goal.store_predecessor_link-requires-clause-phase
store_predecessor_link-requires-clause-phase g c = (attached_feed c.args.seat.now.me.0.editing.history c.args.bus, ap (λ m. m.0.editing.phase) c.clear_flag.ensures.me)
