use Rattle.std.proofs.Common.{◌≡◌, ℕ, ◌≤◌, length, None}
use Rattle.bus_list.specs.Visits.{attached_feed}
use Rattle.bus_list.specs.ListViews.{history_of, buses_of_list}
use Rattle.list_bench.proofs.lists.filled.Given as goal

-- The buses so far are attached, and no others.
abbrev pub invariant-loop-bus : goal.invariant-loop-bus
invariant-loop-bus l = (buses_of_list l.both ≡ l.buses) × (length (history_of l.both) ≡ l.bus)
    × ((b : ℕ) → l.bus ≤ b → attached_feed (history_of l.both) b ≡ None)
