use Rattle.std.proofs.Common.{◌≡◌, ◌∙◌, ◌+◌, ap, length, map, refl, subst, arith}
use Rattle.std.specs.Prelude.{Some}
use Rattle.std.proofs.lemmas.List.{length-map}
use Rattle.std.proofs.lemmas.List.Elements.{All-map, All-same, All-weaker}
use Rattle.std.proofs.lemmas.Simd.{map-map}
use Rattle.job_queue.specs.Queues.{IsNewJobSeatOf}
use Rattle.job_queue.specs.declared.queue.JobSeat.{JobSeat}
use Rattle.resource_mgr.specs.Desks.{desk_number, left_of, new_desk, IsDeskOf, IsNewDeskOf}
use Rattle.resource_mgr.specs.PageOrder.{ReelPage, all_pages, pages_of_tape}
use Rattle.resource_mgr.specs.Works.{page_in}
use Rattle.resource_mgr.specs.declared.library.Library.{Library}
use Rattle.resource_mgr.specs.declared.work.Work.{Work}
use Rattle.resource_mgr.proofs.library.Library.open.Goals as goal

pub returns : goal.returns
returns c =
    let library : Library = record { queue = c.in_ok-queue.queue } in
    let e = c.in_ok-queue.ensures in
    let desks = c.in_ok-desks.ensures in
    let seats = c.in_ok-queue.seats.items in
    let count : length seats ≡ c.args.workers + 1 = omega (arith, e.seats.0, c.in_ok-queue.seats.ok) in
    let new = λ (s : JobSeat Work) (at : IsNewJobSeatOf c.in_ok-queue.queue s). new_one library s at in
    let old = λ (s : JobSeat Work) (at : IsNewJobSeatOf c.in_ok-queue.queue s). one library s at in
    record {
      clips_are = c.in_ok-sources.ensures.clips;
      slots = e.slots;
      count = ap length desks ∙ length-map seats new_desk ∙ count;
      numbers = ap (map desk_number) desks ∙ map-map desk_number new_desk seats ∙ e.numbers;
      new = All-same (IsNewDeskOf library) _ _ desks (All-map (IsNewDeskOf library) new_desk seats (All-weaker (IsNewJobSeatOf c.in_ok-queue.queue) (λ s. IsNewDeskOf library (new_desk s)) new seats e.seats.1));
      desks = All-same (IsDeskOf library) _ _ desks (All-map (IsDeskOf library) new_desk seats (All-weaker (IsNewJobSeatOf c.in_ok-queue.queue) (λ s. IsDeskOf library (new_desk s)) old seats e.seats.1));
      left = subst (λ tapes. map page_in (left_of c.in_ok-poster.poster) ≡ map (λ (page : ReelPage). Some page) (all_pages (map pages_of_tape tapes))) c.as_slice.ensures.value c.in_ok-poster.ensures;
    }
  where
    new_one : (l : Library) (s : JobSeat Work) → IsNewJobSeatOf l.queue s → IsNewDeskOf l (new_desk s)
    new_one l s at = record { seat = at; none_kept = refl; none_ended = refl }

    one : (l : Library) (s : JobSeat Work) → IsNewJobSeatOf l.queue s → IsDeskOf l (new_desk s)
    one l s at = record { seat = at.at; kept = tt }
