-- Desks after the steps of a call.
use Rattle.std.proofs.Common.{◌≡◌, ℕ, [], ◌∷◌, ◌++◌, refl, sym, ◌∙◌, ap, subst}
use Rattle.std.specs.Prelude.{Option, Some, None}
use base.Stored.{Gv}
use Rattle.exec_reel.specs.declared.ticket.Ticket.{Ticket}
use Rattle.slot_tags.specs.Tags.{job_of, capacity_of, given_of, GiveNotes, SameTag}
use Rattle.slot_tags.specs.declared.tag.SlotTag.{SlotTag}
use Rattle.job_queue.specs.Queues.{posted_of, took_of, seat_number, slot_seat_of, slot_table_of, IsJobSeatOf, RingHeld}
use Rattle.job_queue.specs.Rule.{tag_data}
use Rattle.job_queue.specs.declared.queue.JobSeat.{JobSeat}
use Rattle.job_queue.specs.declared.view.Posted.{Posted}
use Rattle.job_queue.specs.declared.view.TagData.{TagData}
use Rattle.resource_mgr.specs.Desks.{queue_of, seat_of, kept_of, IsSameWork}
use Rattle.resource_mgr.specs.Holding.{HoldsJob, ObtainedJob, IsPutBackAt, RanAs}
use Rattle.resource_mgr.specs.Working.{CameBy, IsPutBack, RanPage, WasEarly, HadQuit, WorkedOne}
use Rattle.resource_mgr.specs.declared.work.Work.{Work}
use Rattle.resource_mgr.specs.declared.work.Work.TheVariants.{Page, Quit}
use Rattle.resource_mgr.specs.declared.work.Worked.{Worked}
use Rattle.resource_mgr.specs.declared.work.Worked.TheVariants as answer
use Rattle.resource_mgr.specs.declared.desk.Desk.{Desk}
use Rattle.resource_mgr.specs.declared.library.Library.{Library}

same_data : (t t' : SlotTag) → SameTag t t' → tag_data t' ≡ tag_data t
same_data t t' s = λ k. record { slot = s.slot k; number = s.number k; notes = s.notes k }

abbrev posted_with : Work → TagData → Posted Work
posted_with work data' = record { job = work; tag = data' }

abbrev posted_as : Work → SlotTag → Posted Work
posted_as work t = posted_with work (tag_data t)

same_post : (work work' : Work) (t t' : SlotTag) → work' ≡ work → SameTag t t' → posted_as work' t' ≡ posted_as work t
same_post work work' t t' same s = λ k. posted_with (same k) (same_data t t' s k)

-- a job that the ring refused is kept
pub kept_back : (code : Work → Gv) (l : Library) (d : Desk) (s : JobSeat Work) (tag back : SlotTag) (work work' : Work)
    → HoldsJob l d tag work → IsJobSeatOf (queue_of l) s × (seat_number s ≡ seat_number (seat_of d))
    → took_of s ≡ took_of (seat_of d) → slot_seat_of s ≡ slot_seat_of (seat_of d) → posted_of s ≡ posted_of (seat_of d)
    → SameTag tag back × (job_of back ≡ None) × (work' ≡ work) → RingHeld code (capacity_of (slot_table_of (queue_of l))) (seat_of d)
    → IsPutBackAt code l d record { seat = s; kept = Some record { tag = back; work = work' }; ended = d.ended } tag work
kept_back code l d s tag back work work' holds seat took slots posted given full = record {
  desk = record {
    seat = seat.0;
    kept = record {
      tag = given.0.table ∙ holds.own.tag;
      empty = given.1;
      earlier = holds.own.earlier;
      last = holds.own.last;
      took = took ∙ holds.own.took;
      same_tag = holds.own.same_tag ∙ sym (same_data tag back given.0);
      same_work = subst (IsSameWork holds.own.last.posted.job) (sym given.2) holds.own.same_work;
    };
  };
  same = record { number = seat.1; ended = refl; slots = slots };
  put_back = (same_post work work' tag back given.2 given.0, posted, record { before = seat_of d; same = (refl, sym took); held = full });
  took = took;
}

-- what is taken in one step of a call is what the call takes, where its other steps take none
came_still : (o : Option (Posted Work)) (s m s' : JobSeat Work) (p : Posted Work) → took_of s' ≡ took_of m → CameBy o s m p → CameBy o s s' p
came_still None s m s' p same one = record { poster = one.poster; number = one.number; took = same ∙ one.took }
came_still (Some kept) s m s' p same x = (x.0, same ∙ x.1)

put_back_before : (code : Work → Gv) (l : Library) (s m s' : JobSeat Work) (o : Option (Posted Work)) (p : Posted Work)
    → posted_of m ≡ posted_of s → IsPutBack code l m s' o p → IsPutBack code l s s' o p
put_back_before code l s m s' None p same x = x ∙ ap (λ posts. posts ++ p ∷ []) same
put_back_before code l s m s' (Some kept) p same x = (x.0, x.1 ∙ same, record { before = x.2.before; same = (x.2.same.0 ∙ same, x.2.same.1); held = x.2.held })

module _ (code : Work → Gv) (l : Library) (d m d' : Desk) (tag : SlotTag) where
  pub worked_page : (resource : ℕ) (ticket : Ticket) (answer : Worked) → ObtainedJob l d m tag (Page resource ticket) → RanAs code l m d' tag resource ticket answer → WorkedOne code l d d' answer
  worked_page resource ticket (answer.Ran r page) c x = let ran = x.2 in subst (λ n. RanPage l d d' n page) (sym x.0) record {
    ticket = ticket;
    tag = tag_data tag;
    ended = ran.ended;
    came = came_still (kept_of d) (seat_of d) (seat_of m) (seat_of d') _ ran.took c.came;
    number = sym x.1;
    done = ran.done;
    ended_is = ran.ended_is;
    none_kept = ran.none_kept;
    posted = ran.posted ∙ c.posted;
    given = ran.given ∙ ap (λ s. given_of s ++ (tag.slot, tag.number) ∷ []) c.same.slots;
    notes = subst (λ s. GiveNotes (slot_table_of (queue_of l)) s (slot_seat_of (seat_of d')) tag) c.same.slots ran.notes;
  }
  worked_page resource ticket (answer.Early r page pointer) c x = let early = x.2 in subst (λ n. WasEarly code l d d' n page pointer) (sym x.0) record {
    ticket = ticket;
    back = early.back;
    tag = tag_data tag;
    came = came_still (kept_of d) (seat_of d) (seat_of m) (seat_of d') _ early.put_back.took c.came;
    number = sym x.1;
    early = early.early;
    put_back = put_back_before code l (seat_of d) (seat_of m) (seat_of d') (kept_of d') _ c.posted early.put_back.put_back;
    ended = early.put_back.same.ended ∙ c.same.ended;
    slots = early.put_back.same.slots ∙ c.same.slots;
  }
  worked_page resource ticket answer.Quit c x = absurd x
  worked_page resource ticket answer.Empty c x = absurd x

  pub had_quit : ObtainedJob l d m tag Quit → IsPutBackAt code l m d' tag Quit → HadQuit code l d d'
  had_quit c back = record {
    tag = tag_data tag;
    came = came_still (kept_of d) (seat_of d) (seat_of m) (seat_of d') _ back.took c.came;
    put_back = put_back_before code l (seat_of d) (seat_of m) (seat_of d') (kept_of d') _ c.posted back.put_back;
    ended = back.same.ended ∙ c.same.ended;
    slots = back.same.slots ∙ c.same.slots;
  }
