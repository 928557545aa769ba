use Rattle.std.proofs.Common.{◌≡◌, ◌+◌, [], ◌∷◌, ◌++◌, All, map, length, sym, ap, ◌∙◌, subst, arith}
use Rattle.std.proofs.lemmas.List.{map-append, length-map}
use Rattle.std.proofs.lemmas.List.FromFn.{length-range_with_len}
use Rattle.std.proofs.lemmas.List.Elements.{All-push, All-tail, All-head}
use Rattle.std.specs.List.{range_with_len}
use Rattle.crossbeam_queue.specs.Passes.{view}
use Rattle.slot_tags.specs.Tags.{IsNewSeatOf}
use Rattle.job_queue.specs.Queues.{seat_number, IsNewJobSeatOf}
use Rattle.job_queue.proofs.Rows.{one_more}
use Rattle.job_queue.proofs.queue.JobQueue.new.Goals as goal

pub invariant_of-push : goal.invariant_of-push
invariant_of-push g c =
    let slots = c.in_ok-ring.ring.slots in
    let own = All-head (IsNewSeatOf slots) _ _ (subst (All (IsNewSeatOf slots)) c.in-Some.ensures.steps.0 c.loop-slot_seat.invariant.left) in
    record {
      works = ap (λ v. v.role) c.split_seat-pass.ensures.seat;
      named = ap (λ v. v.table.id) c.split_seat-pass.ensures.seat ∙ sym own.0.0;
    }

pub loop-slot_seat-preserved : goal.loop-slot_seat-preserved
loop-slot_seat-preserved g c =
    let l = c.loop-slot_seat in
    let ring = c.in_ok-ring.ring in
    let slots = ring.slots in
    let from = subst (All (IsNewSeatOf slots)) c.in-Some.ensures.steps.0 l.invariant.left in
    let own = All-head (IsNewSeatOf slots) _ _ from in
    let split = c.split_seat-pass.ensures in
    let count : (view c.split_seat-pass.new.first).number ≡ (view l.first).number + 1 = ap (λ v. v.number) split.first in
    let number : (view c.split_seat-pass.result).number ≡ (view l.first).number + 1 = ap (λ v. v.number) split.seat in
    let rest = ap length c.in-Some.ensures.steps.0 in
    let many = l.invariant.count in
    record {
      at = split.at.0;
      role = ap (λ v. v.role) split.first ∙ l.invariant.role;
      named = λ any. ap (λ v. v.table.id) split.first;
      left = All-tail (IsNewSeatOf slots) _ _ from;
      count = omega arith;
      each = subst (All (IsNewJobSeatOf record { ring = ring })) (sym c.in_ok-push.ensures.items) (All-push (IsNewJobSeatOf record { ring = ring }) l.all.items _ l.invariant.each record {
        at = (split.at.1, own.0);
        slot_seat = own;
        posted = ap (λ v. v.posted) split.seat;
        took = ap (λ v. v.took) split.seat;
      });
      numbers = ap (map seat_number) c.in_ok-push.ensures.items
          ∙ map-append seat_number l.all.items _
          ∙ (λ k. l.invariant.numbers k ++ number k ∷ [])
          ∙ sym (one_more 1 (view l.first).number ((view l.first).number + 1) (omega arith))
          ∙ ap (range_with_len 1) (sym count);
    }

pub returns-clause-seats : goal.returns-clause-seats
returns-clause-seats g c =
    let l = c.loop-slot_seat in
    let seats = l.all.ok in
    let rest = l.slot_seat-iterator.rest.ok in
    let none = c.in-None.ensures.steps.0 in
    let count = l.invariant.count in
    let numbers = sym (length-map l.all.items seat_number) ∙ ap length l.invariant.numbers ∙ length-range_with_len 1 (view l.first).number in
    (omega arith, l.invariant.each)
