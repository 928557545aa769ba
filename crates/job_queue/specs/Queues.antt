-- Queues of jobs and their seats, as contracts see them.
use Rattle.std.specs.Prelude.{◌≡◌, ℕ, ◌≤◌, ◌<◌, List, [], ◌∷◌, ◌++◌}
use base.Stored.{Gv}
use Rattle.crossbeam_queue.specs.Fifo.{Held}
use Rattle.crossbeam_queue.specs.Passes.{view}
use Rattle.slot_tags.specs.declared.view.Note.TheVariants.{Split}
use Rattle.slot_tags.specs.declared.tag.SlotTag.{SlotTag}
use Rattle.slot_tags.specs.declared.slot_table.SlotSeat.{SlotSeat}
use Rattle.slot_tags.specs.declared.slot_table.SlotTable.{SlotTable}
use Rattle.slot_tags.specs.Notes.{Took, WasFull, GaveBack}
use Rattle.slot_tags.specs.Steps.{IsNewer}
use Rattle.slot_tags.specs.Tags.{IsSeatOf, IsNewSeatOf, IsTagOf, capacity_of, last_of, notes_of, given_of}
use Rattle.job_queue.specs.declared.view.TagData.{TagData}
use Rattle.job_queue.specs.declared.view.Posted.{Posted}
use Rattle.job_queue.specs.declared.view.Post.{Post}
use Rattle.job_queue.specs.declared.queue.Place.{Place}
use Rattle.job_queue.specs.declared.queue.Place.TheVariants.{Slots, Ring}
use Rattle.job_queue.specs.declared.queue.JobSeat.{JobSeat}
use Rattle.job_queue.specs.declared.queue.JobQueue.{JobQueue}
use Rattle.job_queue.specs.Rings.{IsAt}
use Rattle.job_queue.specs.Rule.{tag_data}
use Rattle.job_queue.specs.Steps.{Stood}

module _ {J : Type 0} where
  -- the slots in which the queue's jobs lie
  abbrev pub slot_table_of : JobQueue J → SlotTable J
  slot_table_of q = q.ring.slots

  -- a job seat: its number, what it posted and what it took, in order, and its seat of the slots
  abbrev pub seat_number : JobSeat J → ℕ
  seat_number s = (view s.pass).number

  abbrev pub posted_of : JobSeat J → List (Posted J)
  posted_of s = (view s.pass).posted

  abbrev pub took_of : JobSeat J → List (Post J)
  took_of s = (view s.pass).took

  abbrev pub slot_seat_of : JobSeat J → SlotSeat J
  slot_seat_of s = s.slot_seat

  -- the seat is one of this queue
  abbrev pub IsJobSeatOf : JobQueue J → JobSeat J → Type 0
  IsJobSeatOf q s = IsAt q.ring s.pass × IsSeatOf q.ring.slots s.slot_seat

  -- the seat is one of this queue, and has done nothing yet
  pub record IsNewJobSeatOf (q : JobQueue J) (s : JobSeat J) : Type 0 where
    pub at : IsJobSeatOf q s
    pub slot_seat : IsNewSeatOf q.ring.slots s.slot_seat
    pub posted : posted_of s ≡ []
    pub took : took_of s ≡ []

  -- the tag is one of this queue
  abbrev pub IsJobTagOf : JobQueue J → SlotTag → Type 0
  IsJobTagOf q t = IsTagOf q.ring.slots t

  -- at one moment of a call of the seat the ring held n tags. The rule held of these, and of what this seat had posted and taken
  abbrev pub RingHeld : (J → Gv) → ℕ → JobSeat J → Type 0
  RingHeld code n s = Held n (Stood code (view s.pass))

  -- the tag that one `take` of the call gave, by its own steps
  pub record WasTaken (q : JobQueue J) (s : JobSeat J) (tag : TagData) : Type 0 where
    pub slot : tag.slot < capacity_of q.ring.slots
    pub number : (1 ≤ tag.number) × (tag.number ≤ last_of q.ring.slots)
    pub newer : IsNewer tag.slot tag.number (given_of s.slot_seat)
    pub notes : Took tag.slot tag.number tag.notes

  -- the job was posted, under a tag that the call took
  pub record WasPosted (q : JobQueue J) (s s' : JobSeat J) (job : J) : Type 0 where
    pub tag : TagData
    pub taken : WasTaken q s tag
    pub posted : posted_of s' ≡ posted_of s ++ record { job = job; tag = tag } ∷ []
    pub given : given_of s'.slot_seat ≡ given_of s.slot_seat
    pub notes : notes_of s'.slot_seat ≡ notes_of s.slot_seat ++ Split ∷ []

  -- no slot was free: the call tried each of them once
  pub record SlotsWereFull (q : JobQueue J) (s s' : JobSeat J) : Type 0 where
    pub given : given_of s'.slot_seat ≡ given_of s.slot_seat
    pub notes : WasFull (capacity_of q.ring.slots) (notes_of s.slot_seat) (notes_of s'.slot_seat)

  -- the ring was full at the push: the tag that the call took was given back
  pub record RingWasFull (code : J → Gv) (q : JobQueue J) (s s' : JobSeat J) : Type 0 where
    pub held : RingHeld code (capacity_of q.ring.slots) s
    pub tag : TagData
    pub taken : WasTaken q s tag
    pub given : given_of s'.slot_seat ≡ given_of s.slot_seat ++ (tag.slot, tag.number) ∷ []
    pub notes : GaveBack tag.slot tag.number (last_of q.ring.slots) (notes_of s.slot_seat ++ Split ∷ []) tag.notes (notes_of s'.slot_seat)

  abbrev pub HadNoRoom : (J → Gv) → JobQueue J → JobSeat J → JobSeat J → Place → Type 0
  HadNoRoom code q s s' Slots = SlotsWereFull q s s'
  HadNoRoom code q s s' Ring = RingWasFull code q s s'

  -- the seat took this job, which was posted under this tag
  pub record WasTakenBy (s s' : JobSeat J) (tag : SlotTag) (job : J) : Type 0 where
    pub poster : ℕ
    pub number : ℕ
    pub took : took_of s' ≡ took_of s ++ record { poster = poster; number = number; posted = record { job = job; tag = tag_data tag } } ∷ []
