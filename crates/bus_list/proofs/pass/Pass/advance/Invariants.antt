use Rattle.std.proofs.Common.{◌≡◌, false}
use Rattle.bus_list.specs.PassStates.{SameVisit, NotesGrow, unwalked}
use Rattle.bus_list.proofs.pass.Pass.advance.Given as goal

-- Each bus so far was passed over, so the visit has given no more.
abbrev pub invariant-loop : goal.invariant-loop
invariant-loop g l =
    SameVisit l.initial.self.seat.me.0.reading l.self.seat.me.0.reading × (l.self.table ≡ l.initial.self.table) × (l.self.from ≡ l.initial.self.from) × (l.self.ended ≡ false)
    × (l.self.seat.me.0.reading.given ≡ l.initial.self.seat.me.0.reading.given) × NotesGrow l.initial.self.seat.me.0.notes l.self.seat.me.0.notes

abbrev pub decreases-loop : goal.decreases-loop
decreases-loop g l = unwalked l.self.table.buses l.self.seat.me.0.reading.walked
