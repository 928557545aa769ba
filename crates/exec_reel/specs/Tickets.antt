-- Tickets, as contracts see them, and what became of them.
use Rattle.std.specs.Prelude.{◌≡◌, ℕ, ◌+◌, ◌<◌, List, [], ◌∷◌, ◌++◌}
use Rattle.atomic_table.specs.Seated.{TableId}
use Rattle.exec_reel.specs.declared.view.Note.{Note}
use Rattle.exec_reel.specs.declared.view.Note.TheVariants.{LoadPointer, CursorOut, PageOut, PageIn, CursorIn, StorePointer}
use Rattle.exec_reel.specs.declared.ticket.Ticket.{Ticket}
use Rattle.exec_reel.specs.declared.ticket.Ended.{Ended}
use Rattle.exec_reel.specs.declared.ticket.Ran.{Ran}
use Rattle.exec_reel.specs.declared.ticket.Ran.TheVariants.{Early, Done}

abbrev pub number_of : Ticket → ℕ
number_of t = t.number

-- the reel of which the ticket is one
abbrev pub reel_of_ticket : Ticket → TableId
reel_of_ticket t = t.seat.table_id

-- the steps that the ticket has made, in order, with the words that they found
abbrev pub notes_of_ticket : Ticket → List Note
notes_of_ticket t = t.seat.me.0.notes

abbrev pub number_of_ended : Ended → ℕ
number_of_ended e = e.seat.me.0.number

abbrev pub reel_of_ended : Ended → TableId
reel_of_ended e = e.seat.table_id

abbrev pub notes_of_ended : Ended → List Note
notes_of_ended e = e.seat.me.0.notes

-- the notes of a job that is done: the pointer was found at the page's number; the cursor and the page went out and came home; then the number plus 1 was stored
abbrev pub job_notes : ℕ → List Note
job_notes n = LoadPointer n ∷ CursorOut n ∷ PageOut n n ∷ PageIn n n ∷ CursorIn n ∷ StorePointer (n + 1) ∷ []

-- the ticket came back: the pointer that the call loaded is less than its number, and it is as before but for the note of this load
pub record IsEarly (t t' : Ticket) (pointer : ℕ) : Type 0 where
  pub less : pointer < number_of t
  pub number : number_of t' ≡ number_of t
  pub reel : reel_of_ticket t' ≡ reel_of_ticket t
  pub notes : notes_of_ticket t' ≡ notes_of_ticket t ++ LoadPointer pointer ∷ []

-- the ticket's page was decoded
pub record IsDone (t : Ticket) (e : Ended) : Type 0 where
  pub number : number_of_ended e ≡ number_of t
  pub reel : reel_of_ended e ≡ reel_of_ticket t
  pub notes : notes_of_ended e ≡ notes_of_ticket t ++ job_notes (number_of t)

abbrev pub IsOutcome : Ticket → Ran → Type 0
IsOutcome t (Early t' pointer) = IsEarly t t' pointer
IsOutcome t (Done e) = IsDone t e
