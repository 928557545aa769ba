-- The seats so far are numbered from 1 on, as the ring's first pass counts them, and a slot seat is left for each other one.
use Rattle.std.proofs.Common.{◌≡◌, ◌+◌, ◌<◌, All, map, length}
use Rattle.std.specs.List.{range_with_len}
use Rattle.std.specs.Vec.Iter.{into_iter_items}
use Rattle.crossbeam_queue.specs.Passes.{view}
use Rattle.slot_tags.specs.Tags.{table_of, IsNewSeatOf}
use Rattle.job_queue.specs.declared.view.Role.TheVariants.{Opening}
use Rattle.job_queue.specs.Queues.{seat_number, IsNewJobSeatOf}
use Rattle.job_queue.specs.Rings.{IsAt}
use Rattle.job_queue.proofs.queue.JobQueue.new.Given as goal

abbrev pub invariant-loop-slot_seat : goal.invariant-loop-slot_seat
invariant-loop-slot_seat g l = record {
  at : IsAt l.ring l.first;
  role : (view l.first).role ≡ Opening;
  named : 0 < (view l.first).number → (view l.first).table.id ≡ table_of l.ring.slots;
  left : All (IsNewSeatOf l.ring.slots) (into_iter_items l.slot_seat-iterator);
  count : (view l.first).number + length (into_iter_items l.slot_seat-iterator) ≡ l.seats;
  each : All (IsNewJobSeatOf record { ring = l.ring }) l.all.items;
  numbers : map seat_number l.all.items ≡ range_with_len 1 (view l.first).number;
}
