-- Reels, drawers and readers, as contracts see them.
use Rattle.std.specs.Prelude.{◌≡◌, ℕ, ◌+◌, ◌<◌, List, [], ◌∷◌, ◌++◌, Option, Some, None}
use Rattle.std.specs.Arc.{arc_value}
use Rattle.atomic_table.specs.Seated.{TableId}
use Rattle.clip_decode.specs.ClipData.{ClipData}
use Rattle.exec_reel.specs.ClipPages.{page_total}
use Rattle.exec_reel.specs.declared.view.Note.{Note}
use Rattle.exec_reel.specs.declared.view.Note.TheVariants.{FetchAdd, Split}
use Rattle.exec_reel.specs.declared.ticket.Ticket.{Ticket}
use Rattle.exec_reel.specs.declared.drawer.Drawer.{Drawer}
use Rattle.exec_reel.specs.declared.reader.Reader.{Reader}
use Rattle.exec_reel.specs.declared.reel.Reel.{Reel}
use Rattle.exec_reel.specs.declared.reel.Opened.{Opened}
use Rattle.exec_reel.specs.Tickets.{number_of, reel_of_ticket, notes_of_ticket}

-- which reel it is, and the clip whose pages it has
abbrev pub id_of : Reel → TableId
id_of r = (arc_value r.shared).table.shared.table_id

abbrev pub clip_of : Reel → ClipData
clip_of r = (arc_value r.shared).opening.clip

-- how many tickets were drawn, and the notes of the drawer's steps
abbrev pub drawn_of : Drawer → ℕ
drawn_of d = d.seat.me.0.number

abbrev pub notes_of_drawer : Drawer → List Note
notes_of_drawer d = d.seat.me.0.notes

-- the drawer is the one of this reel
abbrev pub IsDrawerOf : Reel → Drawer → Type 0
IsDrawerOf r d = (d.seat.table_id ≡ id_of r) × (d.seat.me.0.clip ≡ clip_of r)

-- the reel that the reader reads, and the clip whose pages that has
abbrev pub reel_of_reader : Reader → TableId
reel_of_reader r = r.seat.table_id

abbrev pub clip_of_reader : Reader → ClipData
clip_of_reader r = r.seat.me.0.clip

-- how many pages the reader was shown so far
abbrev pub shown_of : Reader → ℕ
shown_of r = r.shown

-- the pages that the reader has taken, the last one first, and the notes of its steps
abbrev pub taken_of : Reader → List ℕ
taken_of r = r.seat.me.0.taken

abbrev pub notes_of_reader : Reader → List Note
notes_of_reader r = r.seat.me.0.notes

-- a new reel of a clip: no ticket was drawn, and no page was shown
pub record IsOpened (clip : ClipData) (o : Opened) : Type 0 where
  pub clip_is : clip_of o.reel ≡ clip
  pub drawer : IsDrawerOf o.reel o.drawer
  pub drawn : drawn_of o.drawer ≡ 0
  pub reader : (reel_of_reader o.reader ≡ id_of o.reel) × (clip_of_reader o.reader ≡ clip)
  pub shown : (shown_of o.reader ≡ 0) × (taken_of o.reader ≡ []) × (notes_of_reader o.reader ≡ [])

-- the ticket was drawn: its number is how many were drawn before, which the fetch_add of the call found
pub record IsDrawn (r : Reel) (d d' : Drawer) (t : Ticket) : Type 0 where
  pub number : number_of t ≡ drawn_of d
  pub below : number_of t < page_total (clip_of r)
  pub drawn : drawn_of d' ≡ drawn_of d + 1
  pub reel : reel_of_ticket t ≡ id_of r
  pub notes : (notes_of_drawer d' ≡ (notes_of_drawer d ++ FetchAdd (number_of t) ∷ []) ++ Split ∷ []) × (notes_of_ticket t ≡ [])

-- none was drawn, since as many were as there are pages
pub record NoneIsLeft (r : Reel) (d d' : Drawer) : Type 0 where
  pub drawn : drawn_of d ≡ page_total (clip_of r)
  pub same : (drawn_of d' ≡ drawn_of d) × (notes_of_drawer d' ≡ notes_of_drawer d)

abbrev pub Draws : Reel → Drawer → Drawer → Option Ticket → Type 0
Draws r d d' None = NoneIsLeft r d d'
Draws r d d' (Some t) = IsDrawn r d d' t
