use Rattle.std.proofs.Common.{◌≡◌, ◌+◌, [], All, vec_len}
use Rattle.slot_tags.specs.Seats.{IsAt}
use Rattle.slot_tags.specs.Steps.{first_view}
use Rattle.slot_tags.specs.Tags.{IsNewSeatOf}
use Rattle.slot_tags.proofs.slot_table.SlotTable.new.Given as goal

abbrev pub invariant-loop : goal.invariant-loop
invariant-loop g l = record {
  at : IsAt l.steps l.seat;
  me : l.seat.me ≡ (first_view record { groups = l.steps.groups; last = l.steps.last }, []);
  count : vec_len l.all + 1 ≡ l.counter;
  each : All (IsNewSeatOf record { steps = l.steps }) l.all.items;
}
