-- Libraries, their desks and their posters, as contracts see them.
use Rattle.std.specs.Prelude.{◌≡◌, ℕ, ◌<◌, List, [], ◌∷◌, ◌++◌, Option, Some, None}
use Rattle.std.specs.VecDeque.{deque_len, deque_capacity}
use Rattle.exec_reel.specs.Tickets.{number_of, reel_of_ticket}
use Rattle.exec_reel.specs.declared.ticket.Ended.{Ended}
use Rattle.slot_tags.specs.Tags.{job_of}
use Rattle.job_queue.specs.Queues.{seat_number, took_of, IsJobSeatOf, IsNewJobSeatOf, IsJobTagOf}
use Rattle.job_queue.specs.Rule.{tag_data}
use Rattle.job_queue.specs.declared.queue.JobQueue.{JobQueue}
use Rattle.job_queue.specs.declared.queue.JobSeat.{JobSeat}
use Rattle.job_queue.specs.declared.view.Post.{Post}
use Rattle.job_queue.specs.declared.view.Posted.{Posted}
use Rattle.resource_mgr.specs.declared.work.Work.{Work}
use Rattle.resource_mgr.specs.declared.work.Work.TheVariants.{Page, Quit}
use Rattle.resource_mgr.specs.declared.desk.Kept.{Kept}
use Rattle.resource_mgr.specs.declared.desk.Desk.{Desk}
use Rattle.resource_mgr.specs.declared.library.Library.{Library}
use Rattle.resource_mgr.specs.declared.poster.Poster.{Poster}

-- the queue in which a library's jobs wait
abbrev pub queue_of : Library → JobQueue Work
queue_of l = l.queue

-- a desk: its seat of the queue, with its number and the lists of what it posted and took
abbrev pub seat_of : Desk → JobSeat Work
seat_of d = d.seat

abbrev pub desk_number : Desk → ℕ
desk_number d = seat_number d.seat

abbrev pub kept_with_tag : Kept → Posted Work
kept_with_tag k = record { job = k.work; tag = tag_data k.tag }

abbrev pub kept_if_any : Option Kept → Option (Posted Work)
kept_if_any None = None
kept_if_any (Some k) = Some (kept_with_tag k)

-- the job that it keeps, if it keeps one, with its tag
abbrev pub kept_of : Desk → Option (Posted Work)
kept_of d = kept_if_any d.kept

-- what is left of the ticket of the page that it decoded last
abbrev pub ended_of : Desk → Option Ended
ended_of d = d.ended

-- a desk with this seat, which has done nothing yet
abbrev pub new_desk : JobSeat Work → Desk
new_desk s = record { seat = s; kept = None; ended = None }

-- the jobs that are left to post, in order
abbrev pub left_of : Poster → List Work
left_of p = p.jobs.items

abbrev pub RoomForOne : Poster → Type 0
RoomForOne p = deque_len p.jobs < deque_capacity p.jobs

-- a job is the same as before, but for the notes of its ticket
abbrev pub IsSameWork : Work → Work → Type 0
IsSameWork (Page resource ticket) (Page resource' ticket') = (resource' ≡ resource) × (number_of ticket' ≡ number_of ticket) × (reel_of_ticket ticket' ≡ reel_of_ticket ticket)
IsSameWork (Page resource ticket) Quit = ⊥
IsSameWork Quit (Page resource' ticket') = ⊥
IsSameWork Quit Quit = Unit {0}

-- a job that a desk keeps is the one that its seat took last, under the same tag, which is one of the library's and is empty
pub record IsKept (l : Library) (s : JobSeat Work) (k : Kept) : Type 0 where
  pub tag : IsJobTagOf l.queue k.tag
  pub empty : job_of k.tag ≡ None
  pub earlier : List (Post Work)
  pub last : Post Work
  pub took : took_of s ≡ earlier ++ last ∷ []
  pub same_tag : last.posted.tag ≡ tag_data k.tag
  pub same_work : IsSameWork last.posted.job k.work

abbrev pub KeepsOwn : Library → JobSeat Work → Option Kept → Type 0
KeepsOwn l s None = Unit {0}
KeepsOwn l s (Some k) = IsKept l s k

-- the desk is one of this library
pub record IsDeskOf (l : Library) (d : Desk) : Type 0 where
  pub seat : IsJobSeatOf l.queue d.seat
  pub kept : KeepsOwn l d.seat d.kept

-- the desk is one of this library, and has done nothing yet
pub record IsNewDeskOf (l : Library) (d : Desk) : Type 0 where
  pub seat : IsNewJobSeatOf l.queue d.seat
  pub none_kept : d.kept ≡ None
  pub none_ended : d.ended ≡ None
