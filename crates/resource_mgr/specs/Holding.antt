-- A job that a call holds with its tag, between its taking and its end.
use Rattle.std.specs.Prelude.{◌≡◌, ℕ, [], ◌∷◌, ◌++◌, Option, Some, None}
use base.Stored.{Gv}
use Rattle.exec_reel.specs.Tickets.{number_of, IsEarly, IsDone}
use Rattle.exec_reel.specs.declared.ticket.Ended.{Ended}
use Rattle.exec_reel.specs.declared.ticket.Ticket.{Ticket}
use Rattle.slot_tags.specs.Tags.{slot_of, number_of as tag_number, given_of, GiveNotes}
use Rattle.slot_tags.specs.declared.tag.SlotTag.{SlotTag}
use Rattle.job_queue.specs.Queues.{posted_of, took_of, slot_seat_of, slot_table_of, IsJobSeatOf}
use Rattle.job_queue.specs.Rule.{tag_data}
use Rattle.resource_mgr.specs.Desks.{queue_of, seat_of, desk_number, kept_of, ended_of, IsDeskOf, IsKept}
use Rattle.resource_mgr.specs.Working.{CameBy, IsPutBack, WasEmpty}
use Rattle.resource_mgr.specs.declared.work.Work.{Work}
use Rattle.resource_mgr.specs.declared.work.Work.TheVariants.{Page}
use Rattle.resource_mgr.specs.declared.work.Worked.{Worked}
use Rattle.resource_mgr.specs.declared.work.Worked.TheVariants as answer
use Rattle.resource_mgr.specs.declared.desk.Desk.{Desk}
use Rattle.resource_mgr.specs.declared.library.Library.{Library}

-- the call holds the job that the desk took last, with its tag, and the desk keeps none
pub record HoldsJob (l : Library) (d : Desk) (tag : SlotTag) (work : Work) : Type 0 where
  pub seat : IsJobSeatOf (queue_of l) (seat_of d)
  pub none_kept : d.kept ≡ None
  pub own : IsKept l (seat_of d) record { tag = tag; work = work }

-- the desk is the one that it was, with the same slots
pub record IsSameDesk (d d' : Desk) : Type 0 where
  pub number : desk_number d' ≡ desk_number d
  pub ended : ended_of d' ≡ ended_of d
  pub slots : slot_seat_of (seat_of d') ≡ slot_seat_of (seat_of d)

-- the desk came by this job
pub record ObtainedJob (l : Library) (d d' : Desk) (tag : SlotTag) (work : Work) : Type 0 where
  pub holds : HoldsJob l d' tag work
  pub same : IsSameDesk d d'
  pub came : CameBy (kept_of d) (seat_of d) (seat_of d') record { job = work; tag = tag_data tag }
  pub posted : posted_of (seat_of d') ≡ posted_of (seat_of d)

-- there was no job
pub record FoundNone (code : Work → Gv) (l : Library) (d d' : Desk) : Type 0 where
  pub desk : IsDeskOf l d'
  pub same : IsSameDesk d d'
  pub empty : WasEmpty code d d'

abbrev pub IsNext : (Work → Gv) → Library → Desk → Desk → Option (SlotTag × Work) → Type 0
IsNext code l d d' None = FoundNone code l d d'
IsNext code l d d' (Some x) = ObtainedJob l d d' x.0 x.1

-- the job is put back
pub record IsPutBackAt (code : Work → Gv) (l : Library) (d d' : Desk) (tag : SlotTag) (work : Work) : Type 0 where
  pub desk : IsDeskOf l d'
  pub same : IsSameDesk d d'
  pub put_back : IsPutBack code l (seat_of d) (seat_of d') (kept_of d') record { job = work; tag = tag_data tag }
  pub took : took_of (seat_of d') ≡ took_of (seat_of d)

-- the page of the ticket was decoded, and the tag has ended
pub record RanAt (l : Library) (d d' : Desk) (tag : SlotTag) (ticket : Ticket) : Type 0 where
  pub desk : IsDeskOf l d'
  pub number : desk_number d' ≡ desk_number d
  pub ended : Ended
  pub done : IsDone ticket ended
  pub ended_is : ended_of d' ≡ Some ended
  pub none_kept : kept_of d' ≡ None
  pub posted : posted_of (seat_of d') ≡ posted_of (seat_of d)
  pub took : took_of (seat_of d') ≡ took_of (seat_of d)
  pub given : given_of (slot_seat_of (seat_of d')) ≡ given_of (slot_seat_of (seat_of d)) ++ (slot_of tag, tag_number tag) ∷ []
  pub notes : GiveNotes (slot_table_of (queue_of l)) (slot_seat_of (seat_of d)) (slot_seat_of (seat_of d')) tag

-- its turn hadn't come
pub record WasEarlyAt (code : Work → Gv) (l : Library) (d d' : Desk) (tag : SlotTag) (resource : ℕ) (ticket : Ticket) (pointer : ℕ) : Type 0 where
  pub back : Ticket
  pub early : IsEarly ticket back pointer
  pub put_back : IsPutBackAt code l d d' tag (Page resource back)

abbrev pub RanAs : (Work → Gv) → Library → Desk → Desk → SlotTag → ℕ → Ticket → Worked → Type 0
RanAs code l d d' tag resource ticket (answer.Ran r page) = (r ≡ resource) × (page ≡ number_of ticket) × RanAt l d d' tag ticket
RanAs code l d d' tag resource ticket (answer.Early r page pointer) = (r ≡ resource) × (page ≡ number_of ticket) × WasEarlyAt code l d d' tag resource ticket pointer
RanAs code l d d' tag resource ticket answer.Quit = ⊥
RanAs code l d d' tag resource ticket answer.Empty = ⊥
