-- What the posts of jobs make of a desk and of a poster.
use Rattle.std.specs.Prelude.{◌≡◌, List, [], ◌∷◌, ◌++◌, All, map, Result, Ok, Err}
use base.Stored.{Gv}
use Rattle.slot_tags.specs.declared.view.Note.TheVariants.{Split}
use Rattle.slot_tags.specs.Tags.{notes_of, given_of}
use Rattle.job_queue.specs.Queues.{posted_of, took_of, slot_seat_of, WasTaken, WasPosted, HadNoRoom}
use Rattle.job_queue.specs.declared.queue.JobQueue.{JobQueue}
use Rattle.job_queue.specs.declared.queue.JobSeat.{JobSeat}
use Rattle.job_queue.specs.declared.queue.Place.{Place}
use Rattle.job_queue.specs.declared.view.Posted.{Posted}
use Rattle.resource_mgr.specs.declared.work.Work.{Work}
use Rattle.resource_mgr.specs.declared.work.Work.TheVariants.{Quit}
use Rattle.resource_mgr.specs.declared.desk.Desk.{Desk}
use Rattle.resource_mgr.specs.declared.library.Library.{Library}
use Rattle.resource_mgr.specs.declared.poster.Poster.{Poster}
use Rattle.resource_mgr.specs.declared.poster.Posted as answers
use Rattle.resource_mgr.specs.declared.poster.Posted.TheVariants as answer
use Rattle.resource_mgr.specs.Desks.{queue_of, seat_of, left_of}

abbrev pub job_in : Posted Work → Work
job_in p = p.job

-- the seat posted these jobs in order, each under a tag that its post took, and no other; it took none
pub record PostedEach (q : JobQueue Work) (s s' : JobSeat Work) (jobs : List Work) : Type 0 where
  pub posts : List (Posted Work)
  pub posted : posted_of s' ≡ posted_of s ++ posts
  pub jobs_are : map job_in posts ≡ jobs
  pub taken : All (λ p. WasTaken q s p.tag) posts
  pub took : took_of s' ≡ took_of s
  pub given : given_of (slot_seat_of s') ≡ given_of (slot_seat_of s)
  pub notes : notes_of (slot_seat_of s') ≡ notes_of (slot_seat_of s) ++ map (λ _. Split) jobs

-- Some of the jobs that were left were posted. The post of the next one, which is left still, had no room.
pub record PostedSome (code : Work → Gv) (l : Library) (p p' : Poster) (d d' : Desk) (place : Place) : Type 0 where
  pub jobs : List Work
  pub next : Work
  pub later : List Work
  pub left : left_of p ≡ jobs ++ left_of p'
  pub still_left : left_of p' ≡ next ∷ later
  pub before : JobSeat Work
  pub posted : PostedEach (queue_of l) (seat_of d) before jobs
  pub no_room : HadNoRoom code (queue_of l) before (seat_of d') place
  pub same : (posted_of (seat_of d') ≡ posted_of before) × (took_of (seat_of d') ≡ took_of before)

-- all jobs that were left were posted
pub record PostedRest (l : Library) (p p' : Poster) (d d' : Desk) : Type 0 where
  pub posted : PostedEach (queue_of l) (seat_of d) (seat_of d') (left_of p)
  pub none_left : left_of p' ≡ []

abbrev pub PostsRest : (Work → Gv) → Library → Poster → Poster → Desk → Desk → answers.Posted → Type 0
PostsRest code l p p' d d' (answer.Some place) = PostedSome code l p p' d d' place
PostsRest code l p p' d d' answer.All = PostedRest l p p' d d'

-- a Quit was posted; or it had no room, and what the seat posted is as before
abbrev pub PostsQuit : (Work → Gv) → Library → JobSeat Work → JobSeat Work → Result (Unit {0}) Place → Type 0
PostsQuit code l s s' (Ok _) = WasPosted (queue_of l) s s' Quit
PostsQuit code l s s' (Err place) = (posted_of s' ≡ posted_of s) × HadNoRoom code (queue_of l) s s' place
