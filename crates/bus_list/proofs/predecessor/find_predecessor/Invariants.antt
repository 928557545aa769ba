use Rattle.std.proofs.Common.{length}
use Rattle.bus_list.proofs.PredecessorSearch.{beyond, IsAhead}
use Rattle.bus_list.proofs.predecessor.find_predecessor.Given as goal

abbrev pub invariant-loop-at : goal.invariant-loop-at
invariant-loop-at g l = IsAhead l.buses l.seat.me.0.editing.chain l.bus l.at

abbrev pub decreases-loop-at : goal.decreases-loop-at
decreases-loop-at g l = length (beyond l.buses l.at l.seat.me.0.editing.chain)
