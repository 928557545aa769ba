use Rattle.bus_list.specs.Seats.{SameSeat, OnlyPhase}
use Rattle.bus_list.proofs.grace_period.wait_for_steps.Given as goal

-- The count that was found was not 0, so the phase is as it was.
abbrev pub invariant-loop : goal.invariant-loop
invariant-loop g l =
    (goal.iterator-loop g).can_next l.iterator' × (goal.iterator-loop g).is_finite l.iterator'
    × SameSeat l.initial.seat l.seat × OnlyPhase l.initial.seat.me.0.editing.phase l.initial.seat.me l.seat.me
