-- What contracts see of a pass and of what it lends.
use Rattle.std.specs.Prelude.{◌≡◌, ℕ, ◌<◌, Bool, true, false, List, [], ◌∷◌, ◌++◌}
use Rattle.atomic_table.specs.Seated.{TableId}
use Rattle.bus_list.specs.declared.view.Note.{Note}
use Rattle.bus_list.specs.declared.visit.Visit.{Visit}
use Rattle.bus_list.specs.declared.pass.Pass.{Pass}
use Rattle.bus_list.specs.declared.held.Held.{Held}
use Rattle.bus_list.specs.Visits.{has, buses_of}
use Rattle.bus_list.specs.PassStates.{NotesGrow, LoadedEnd}

module _ {F : Type 0} where
  -- Which list it is of, and for how many buses that was made.
  abbrev pub list_of_pass : Pass F → TableId
  list_of_pass p = p.seat.table_id

  abbrev pub buses_of_pass : Pass F → ℕ
  buses_of_pass p = p.table.buses

  -- Whether a visit is open.
  abbrev pub is_visiting : Pass F → Bool
  is_visiting p = p.seat.me.0.reading.opened

  -- Whether the visit came to the end of the list.
  abbrev pub is_whole : Pass F → Bool
  is_whole p = p.ended

  -- The count of edits with which the visit began.
  abbrev pub from_of : Pass F → ℕ
  from_of p = p.from

  -- The pairs of a bus and its feed that the open visit has given, in order.
  abbrev pub given_of : Pass F → List (ℕ × F)
  given_of p = p.seat.me.0.reading.given

  -- The visits that have ended, in order.
  abbrev pub visits_of : Pass F → List (Visit F)
  visits_of p = p.seat.me.0.reading.visits

  -- The number of edits that its split saw.
  abbrev pub start_of : Pass F → ℕ
  start_of p = p.seat.me.0.reading.start

  -- The count of edits that it loaded last, or its start.
  abbrev pub last_count_of : Pass F → ℕ
  last_count_of p = p.seat.me.0.reading.last_count

  -- The steps that its seat has made, in order, with the words that they found.
  abbrev pub notes_of : Pass F → List Note
  notes_of p = p.seat.me.0.notes

  -- The open visit, where it ends with this count.
  abbrev pub visit_until : Pass F → ℕ → Visit F
  visit_until p n = record { from = from_of p; until = n; pairs = given_of p; whole = is_whole p }

  -- The bus that is lent, and its feed.
  abbrev pub bus_of : Held F → ℕ
  bus_of h = h.bus

  abbrev pub feed_of_held : Held F → F
  feed_of_held h = h.feed.now

  -- The same visit goes on. Once it is whole it stays so.
  pub record Next (p n : Pass F) : Type 0 where
    pub visiting : is_visiting n ≡ true
    pub visits : visits_of n ≡ visits_of p
    pub start : start_of n ≡ start_of p
    pub last_count : last_count_of n ≡ last_count_of p
    pub from : from_of n ≡ from_of p
    pub whole : is_whole p ≡ true → is_whole n ≡ true
    pub list : (list_of_pass n ≡ list_of_pass p) × (buses_of_pass n ≡ buses_of_pass p)
    pub notes : NotesGrow (notes_of p) (notes_of n)

  -- The visit is whole and has given no more. If it wasn't whole before, a link that the call loaded was the end.
  pub record HasEnded (p n : Pass F) : Type 0 where
    pub whole : is_whole n ≡ true
    pub given : given_of n ≡ given_of p
    pub found : is_whole p ≡ false → LoadedEnd (buses_of_pass p) (notes_of p) (notes_of n)

  -- The visit gave this bus, for the first time, with this feed, and isn't whole.
  pub record Gave (p n : Pass F) (bus : ℕ) (feed : F) : Type 0 where
    pub low : bus < buses_of_pass n
    pub new : has bus (buses_of (given_of p)) ≡ false
    pub given : given_of n ≡ given_of p ++ (bus, feed) ∷ []
    pub not_whole : is_whole n ≡ false
