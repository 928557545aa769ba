-- What the running of jobs makes of a desk.
use Rattle.std.specs.Prelude.{◌≡◌, ℕ, ◌+◌, List, [], ◌∷◌, ◌++◌, Option, Some, None, All, length, map}
use base.Stored.{Gv}
use Rattle.exec_reel.specs.Tickets.{number_of, IsEarly, IsDone}
use Rattle.exec_reel.specs.declared.ticket.Ended.{Ended}
use Rattle.exec_reel.specs.declared.ticket.Ticket.{Ticket}
use Rattle.slot_tags.specs.Notes.{GaveBack}
use Rattle.slot_tags.specs.Tags.{notes_of, given_of, last_of, capacity_of}
use Rattle.job_queue.specs.Queues.{posted_of, took_of, slot_seat_of, slot_table_of, RingHeld}
use Rattle.job_queue.specs.declared.queue.JobSeat.{JobSeat}
use Rattle.job_queue.specs.declared.view.Post.{Post}
use Rattle.job_queue.specs.declared.view.Posted.{Posted}
use Rattle.job_queue.specs.declared.view.TagData.{TagData}
use Rattle.resource_mgr.specs.Desks.{queue_of, seat_of, kept_of, ended_of}
use Rattle.resource_mgr.specs.declared.work.Work.{Work}
use Rattle.resource_mgr.specs.declared.work.Work.TheVariants.{Page, Quit}
use Rattle.resource_mgr.specs.declared.work.Worked.{Worked}
use Rattle.resource_mgr.specs.declared.work.Worked.TheVariants as answer
use Rattle.resource_mgr.specs.declared.desk.Desk.{Desk}
use Rattle.resource_mgr.specs.declared.library.Library.{Library}

-- the seat took one job, posted as p
pub record TookOne (s s' : JobSeat Work) (p : Posted Work) : Type 0 where
  pub poster : ℕ
  pub number : ℕ
  pub took : took_of s' ≡ took_of s ++ record { poster = poster; number = number; posted = p } ∷ []

-- the job that a call came by, with its tag: the one that its desk kept, and then it took none; or one that it took
abbrev pub CameBy : Option (Posted Work) → JobSeat Work → JobSeat Work → Posted Work → Type 0
CameBy None s s' p = TookOne s s' p
CameBy (Some kept) s s' p = (p ≡ kept) × (took_of s' ≡ took_of s)

-- the ring was full at the push of a seat that had posted and taken this
pub record RingWasFull (code : Work → Gv) (l : Library) (s s' : JobSeat Work) : Type 0 where
  pub before : JobSeat Work
  pub same : (posted_of before ≡ posted_of s) × (took_of before ≡ took_of s')
  pub held : RingHeld code (capacity_of (slot_table_of (queue_of l))) before

-- the job was posted again under its tag, and none is kept; or it is kept with its tag, and the ring was full at this call's push
abbrev pub IsPutBack : (Work → Gv) → Library → JobSeat Work → JobSeat Work → Option (Posted Work) → Posted Work → Type 0
IsPutBack code l s s' None p = posted_of s' ≡ posted_of s ++ p ∷ []
IsPutBack code l s s' (Some kept) p = (kept ≡ p) × (posted_of s' ≡ posted_of s) × RingWasFull code l s s'

-- a page was decoded: its job is done, and its tag has ended
pub record RanPage (l : Library) (d d' : Desk) (resource page : ℕ) : Type 0 where
  pub ticket : Ticket
  pub tag : TagData
  pub ended : Ended
  pub came : CameBy (kept_of d) (seat_of d) (seat_of d') record { job = Page resource ticket; tag = tag }
  pub number : number_of ticket ≡ page
  pub done : IsDone ticket ended
  pub ended_is : ended_of d' ≡ Some ended
  pub none_kept : kept_of d' ≡ None
  pub posted : posted_of (seat_of d') ≡ posted_of (seat_of d)
  pub given : given_of (slot_seat_of (seat_of d')) ≡ given_of (slot_seat_of (seat_of d)) ++ (tag.slot, tag.number) ∷ []
  pub notes : GaveBack tag.slot tag.number (last_of (slot_table_of (queue_of l))) (notes_of (slot_seat_of (seat_of d))) tag.notes (notes_of (slot_seat_of (seat_of d')))

-- the turn of a page hadn't come: its ticket loaded this pointer, and its job was put back
pub record WasEarly (code : Work → Gv) (l : Library) (d d' : Desk) (resource page pointer : ℕ) : Type 0 where
  pub ticket : Ticket
  pub back : Ticket
  pub tag : TagData
  pub came : CameBy (kept_of d) (seat_of d) (seat_of d') record { job = Page resource ticket; tag = tag }
  pub number : number_of ticket ≡ page
  pub early : IsEarly ticket back pointer
  pub put_back : IsPutBack code l (seat_of d) (seat_of d') (kept_of d') record { job = Page resource back; tag = tag }
  pub ended : ended_of d' ≡ ended_of d
  pub slots : slot_seat_of (seat_of d') ≡ slot_seat_of (seat_of d)

-- the job was a Quit, which was put back
pub record HadQuit (code : Work → Gv) (l : Library) (d d' : Desk) : Type 0 where
  pub tag : TagData
  pub came : CameBy (kept_of d) (seat_of d) (seat_of d') record { job = Quit; tag = tag }
  pub put_back : IsPutBack code l (seat_of d) (seat_of d') (kept_of d') record { job = Quit; tag = tag }
  pub ended : ended_of d' ≡ ended_of d
  pub slots : slot_seat_of (seat_of d') ≡ slot_seat_of (seat_of d)

-- no job was kept, and the ring was empty at this call's pop; nothing has changed
pub record WasEmpty (code : Work → Gv) (d d' : Desk) : Type 0 where
  pub none_kept : (kept_of d ≡ None) × (kept_of d' ≡ None)
  pub empty : RingHeld code 0 (seat_of d)
  pub posted : posted_of (seat_of d') ≡ posted_of (seat_of d)
  pub took : took_of (seat_of d') ≡ took_of (seat_of d)
  pub ended : ended_of d' ≡ ended_of d
  pub slots : slot_seat_of (seat_of d') ≡ slot_seat_of (seat_of d)

abbrev pub WorkedOne : (Work → Gv) → Library → Desk → Desk → Worked → Type 0
WorkedOne code l d d' (answer.Ran resource page) = RanPage l d d' resource page
WorkedOne code l d d' (answer.Early resource page pointer) = WasEarly code l d d' resource page pointer
WorkedOne code l d d' answer.Quit = HadQuit code l d d'
WorkedOne code l d d' answer.Empty = WasEmpty code d d'

-- ---- what becomes of the jobs

abbrev pub work_of : Post Work → Work
work_of e = e.posted.job

abbrev pub kept_work : Option (Posted Work) → List Work
kept_work None = []
kept_work (Some p) = p.job ∷ []

-- No job is lost, and none comes up: as many as a desk kept and took, it has posted again, ended or keeps.
pub record NoneLost (d d' : Desk) : Type 0 where
  pub taken : List (Post Work)
  pub took : took_of (seat_of d') ≡ took_of (seat_of d) ++ taken
  pub posts : List (Posted Work)
  pub posted : posted_of (seat_of d') ≡ posted_of (seat_of d) ++ posts
  pub ended : List (ℕ × ℕ)
  pub given : given_of (slot_seat_of (seat_of d')) ≡ given_of (slot_seat_of (seat_of d)) ++ ended
  pub number : length (kept_work (kept_of d)) + length taken ≡ length posts + length ended + length (kept_work (kept_of d'))

-- ---- a worker

abbrev pub IsPage : Work → Type 0
IsPage (Page resource ticket) = Unit {0}
IsPage Quit = ⊥

-- Of the jobs that it came by, the one that its desk kept and those that it took, each but the last is a page's, and the last is a Quit.
pub record StoppedByQuit (d d' : Desk) : Type 0 where
  pub taken : List (Post Work)
  pub took : took_of (seat_of d') ≡ took_of (seat_of d) ++ taken
  pub pages : List Work
  pub jobs : kept_work (kept_of d) ++ map work_of taken ≡ pages ++ Quit ∷ []
  pub all_pages : All IsPage pages
