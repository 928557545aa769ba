-- What each kind of step makes of a view, and what it tells.
use Rattle.std.specs.Prelude.{◌≡◌, ℕ, ◌+◌, ◌^◌, ◌≤◌, ◌<◌, cond, ◌==◌, [], ◌∷◌, ◌++◌}
use Rattle.atomic_table.specs.Table.{Step, Me, rest}
use Rattle.clip_decode.specs.declared.cursor.Cursor.{Cursor}
use Rattle.exec_reel.specs.ClipPages.{page_total, page_of, empty_page, ComesTo}
use Rattle.exec_reel.specs.declared.cell.Cell.{Cell}
use Rattle.exec_reel.specs.declared.cell.Cell.TheVariants.{Decoder, Page}
use Rattle.exec_reel.specs.declared.view.Opening.{Opening}
use Rattle.exec_reel.specs.declared.view.Stage.TheVariants.{Ready, CursorTaken, PageTaken, PageHome, CursorHome}
use Rattle.exec_reel.specs.declared.view.Role.{Role}
use Rattle.exec_reel.specs.declared.view.Role.TheVariants.{Opener, Drawing, Drawn, Waiting, Working, Ended, Reading}
use Rattle.exec_reel.specs.declared.view.Note.{Note}
use Rattle.exec_reel.specs.declared.view.Note.TheVariants.{FetchAdd, Split, LoadPointer, CursorOut, PageOut, PageIn, CursorIn, StorePointer}
use Rattle.exec_reel.specs.declared.view.View.{View}

abbrev pub first_view : Opening → View
first_view k = record { role = Opener; clip = k.clip; number = k.filled; shown = k.filled; taken = []; notes = [] }

-- the seat goes over to this role, by a step with this note
abbrev pub becomes : Role → Note → View → View
becomes role note v = record v { role = role; notes = v.notes ++ note ∷ [] }

-- the two views of a split: the reader's off the opener's, and a ticket's off the drawer's
abbrev pub drawing : View → View
drawing v = becomes Drawing Split v

abbrev pub new_reader : View → View
new_reader v = record v { role = Reading; number = 0; taken = []; notes = [] }

abbrev pub drawing_next : View → View
drawing_next v = record v { role = Drawing; number = v.number + 1; notes = v.notes ++ Split ∷ [] }

abbrev pub new_ticket : View → View
new_ticket v = record v { role = Waiting; shown = 0; taken = []; notes = [] }

-- the ticket found the pointer at its number, so that its job may be run; or it is too early
abbrev pub turn_or_not : ℕ → View → View
turn_or_not n v = cond (n == v.number) (becomes (Working Ready) (LoadPointer n) v) (becomes v.role (LoadPointer n) v)

-- a ticket whose page was decoded: the cursor and the page went out, and came home
abbrev pub decoded : View → View
decoded v = becomes (Working CursorHome) (CursorIn v.number) (becomes (Working PageHome) (PageIn v.number v.number)
    (becomes (Working PageTaken) (PageOut v.number v.number) (becomes (Working CursorTaken) (CursorOut v.number) v)))

-- the reader was shown the pages below n
abbrev pub shown_to : ℕ → View → View
shown_to n v = record v { shown = n; notes = v.notes ++ LoadPointer n ∷ [] }

-- the reader took page j
abbrev pub with_page : ℕ → ℕ → View → View
with_page j n v = record v { taken = j ∷ v.taken; notes = v.notes ++ PageOut j n ∷ [] }

abbrev pub Told : Type 1
Told = Step Cell → Me Cell View → ℕ → Me Cell View → Type 0

abbrev pub FetchedAdd : Told
FetchedAdd s me n now = (now ≡ (becomes Drawn (FetchAdd n) me.0, me.1)) × (n ≡ me.0.number) × (n < 2 ^ 32)

abbrev pub TicketLoaded : Told
TicketLoaded s me n now = (now ≡ (turn_or_not n me.0, me.1)) × (n ≤ me.0.number)

abbrev pub CursorWentOut : Told
CursorWentOut s me n now = (n ≡ me.0.number) × ((x : Cursor) × ComesTo me.0.clip me.0.number x
    × (now ≡ (becomes (Working CursorTaken) (CursorOut n) me.0, (page_total me.0.clip, Decoder x) ∷ me.1)))

abbrev pub PageWentOut : Told
PageWentOut s me n now = (n ≡ me.0.number) × (now ≡ (becomes (Working PageTaken) (PageOut me.0.number n) me.0, (me.0.number, Page (empty_page me.0.clip)) ∷ me.1))

abbrev pub PageCameIn : Told
PageCameIn s me n now = (n ≡ me.0.number) × (now ≡ (becomes (Working PageHome) (PageIn me.0.number n) me.0, rest me.1))

abbrev pub CursorCameIn : Told
CursorCameIn s me n now = (n ≡ me.0.number) × (now ≡ (becomes (Working CursorHome) (CursorIn n) me.0, rest me.1))

abbrev pub PointerStored : Told
PointerStored s me n now = now ≡ (becomes Ended (StorePointer n) me.0, me.1)

abbrev pub ReaderLoaded : Told
ReaderLoaded s me n now = (now ≡ (shown_to n me.0, me.1)) × (me.0.shown ≤ n) × (n ≤ page_total me.0.clip) × (n < 2 ^ 32)

-- of page j
abbrev pub ReaderTook : ℕ → Told
ReaderTook j s me n now = now ≡ (with_page j n me.0, (j, Page (page_of me.0.clip j)) ∷ me.1)
