-- Tags, slot seats and tables, as contracts see them.
use Rattle.std.specs.Prelude.{◌≡◌, ℕ, ◌+◌, ◌*◌, List, [], ◌∷◌, ◌++◌, Option, Some, Result, Ok, Err}
use base.Stored.{Gv}
use Rattle.atomic_table.specs.Seated.{TableId}
use Rattle.slot_tags.specs.declared.view.JobCode.{JobCode}
use Rattle.slot_tags.specs.declared.view.Note.{Note}
use Rattle.slot_tags.specs.declared.tag.SlotTag.{SlotTag}
use Rattle.slot_tags.specs.declared.view.Note.TheVariants.{Split}
use Rattle.slot_tags.specs.declared.slot_table.Full.{Full}
use Rattle.slot_tags.specs.declared.slot_table.SlotSeat.{SlotSeat}
use Rattle.slot_tags.specs.declared.slot_table.SlotTable.{SlotTable}
use Rattle.slot_tags.specs.Notes.{Took, WasFull, GaveBack}
use Rattle.slot_tags.specs.Shown.{view_of}

-- a tag: its slot, its number, and the two in one value
abbrev pub slot_of : SlotTag → ℕ
slot_of t = t.slot

abbrev pub number_of : SlotTag → ℕ
number_of t = t.number

abbrev pub value_of : SlotTag → ℕ
value_of t = t.number * 4294967296 + t.slot

-- the table at which the tag is
abbrev pub table_of_tag : SlotTag → TableId
table_of_tag t = t.badge.table_id

-- the code of the job that lies under the tag, if the tag is full
abbrev pub job_of : SlotTag → Option JobCode
job_of t = (view_of t.badge.views).job

-- the notes of the tag's own steps
abbrev pub notes_of_tag : SlotTag → List Note
notes_of_tag t = (view_of t.badge.views).notes

-- the tag is as before but for its job
pub record SameTag (t t' : SlotTag) : Type 0 where
  pub slot : slot_of t' ≡ slot_of t
  pub number : number_of t' ≡ number_of t
  pub table : table_of_tag t' ≡ table_of_tag t
  pub notes : notes_of_tag t' ≡ notes_of_tag t

module _ {J : Type 0} where
  -- the tag is full with this job
  abbrev pub HasJob : (J → Gv) → SlotTag → J → Type 0
  HasJob code t job = job_of t ≡ Some record { code = code job }

  -- a table: its groups of 32 slots each, and the last number of a slot
  abbrev pub groups_of : SlotTable J → ℕ
  groups_of t = t.steps.groups

  abbrev pub last_of : SlotTable J → ℕ
  last_of t = t.steps.last

  abbrev pub capacity_of : SlotTable J → ℕ
  capacity_of t = 32 * t.steps.groups

  abbrev pub table_of : SlotTable J → TableId
  table_of t = t.steps.table.shared.table_id

  -- a slot seat: the table at which it is, with that table's last number
  abbrev pub table_of_seat : SlotSeat J → TableId
  table_of_seat s = s.seat.table_id

  abbrev pub last_of_seat : SlotSeat J → ℕ
  last_of_seat s = s.seat.me.0.last

  -- the notes of the seat's own steps and of those of the tags that were given back through it
  abbrev pub notes_of : SlotSeat J → List Note
  notes_of s = s.seat.me.0.notes

  -- the tags that were given back through the seat, each with its slot and its number
  abbrev pub given_of : SlotSeat J → List (ℕ × ℕ)
  given_of s = s.seat.me.0.given

  -- the seat is one of this table
  abbrev pub IsSeatOf : SlotTable J → SlotSeat J → Type 0
  IsSeatOf t s = (table_of_seat s ≡ table_of t) × (last_of_seat s ≡ last_of t)

  -- the seat is one of this table, and has done nothing yet
  abbrev pub IsNewSeatOf : SlotTable J → SlotSeat J → Type 0
  IsNewSeatOf t s = IsSeatOf t s × (notes_of s ≡ []) × (given_of s ≡ [])

  -- the tag is one of this table
  abbrev pub IsTagOf : SlotTable J → SlotTag → Type 0
  IsTagOf table tag = table_of_tag tag ≡ table_of table

  -- the notes of a take: a tag's seat was split off, and the tag has the notes of its own steps; or the table was full
  abbrev pub TakeNotes : SlotTable J → SlotSeat J → SlotSeat J → Result SlotTag (Full J) → Type 0
  TakeNotes table s s' (Ok t) = (notes_of s' ≡ notes_of s ++ Split ∷ []) × Took (slot_of t) (number_of t) (notes_of_tag t)
  TakeNotes table s s' (Err f) = WasFull (capacity_of table) (notes_of s) (notes_of s')

  -- the notes of a give
  abbrev pub GiveNotes : SlotTable J → SlotSeat J → SlotSeat J → SlotTag → Type 0
  GiveNotes table s s' t = GaveBack (slot_of t) (number_of t) (last_of table) (notes_of s) (notes_of_tag t) (notes_of s')
