-- The rule of turns and pages.
-- Word 0 is the execution counter, and word 1 the pointer. The slot of a page has the page's number; behind the last of them comes the cursor's.
use Rattle.std.specs.Prelude.{◌≡◌, ℕ, ◌+◌, ◌^◌, ◌≤◌, ◌<◌, Bool, true, false, cond, ◌==◌, List, [], ◌∷◌, length}
use mathlib.Core.Option.{some, none}
use lib.ListN.{get_elem?}
use Rattle.atomic_table.specs.Table.{State}
use Rattle.clip_decode.specs.ClipData.{ClipData}
use Rattle.clip_decode.specs.declared.cursor.Cursor.{Cursor}
use Rattle.exec_reel.specs.ClipPages.{page_total, page_of, empty_page, ComesTo}
use Rattle.exec_reel.specs.declared.cell.Cell.{Cell}
use Rattle.exec_reel.specs.declared.cell.Cell.TheVariants.{Decoder, Page}
use Rattle.exec_reel.specs.declared.view.Opening.{Opening}
use Rattle.exec_reel.specs.declared.view.Stage.{Stage}
use Rattle.exec_reel.specs.declared.view.Stage.TheVariants.{Ready, CursorTaken, PageTaken, PageHome, CursorHome}
use Rattle.exec_reel.specs.declared.view.Role.{Role}
use Rattle.exec_reel.specs.declared.view.Role.TheVariants.{Opener, Drawing, Drawn, Waiting, Working, Ended, Reading}
use Rattle.exec_reel.specs.declared.view.View.{View}

-- A slot's content, if the slot is at home.
abbrev pub Home : Type 0
Home = mathlib.Core.Option.Option (mathlib.Core.Option.Option Cell)

-- The page is in a list of pages.
abbrev pub is_among : ℕ → List ℕ → Bool
is_among j [] = false
is_among j (x ∷ xs) = cond (x == j) true (is_among j xs)

abbrev pub IsAmong : ℕ → List ℕ → Type 0
IsAmong j xs = is_among j xs ≡ true

-- What the words and the views come to: the counter and the pointer, how far the job with the pointer's number is, the seat that has the ticket of a number, the seat that has a page which is shown, the seat that draws, and the reader's.
pub record Board : Type 0 where
  pub counter : ℕ
  pub pointer : ℕ
  pub stage : Stage
  pub turn : ℕ → ℕ
  pub taken : ℕ → mathlib.Core.Option.Option ℕ
  pub drawer : ℕ
  pub reader : mathlib.Core.Option.Option ℕ

-- What is so of a seat in this role with this number. Tickets have distinct numbers below the counter. One that waits has a number of at least the pointer, one that works has the pointer's, and one that ended has a number below it.
abbrev pub KnowsAs : Role → Board → ℕ → ℕ → Type 0
KnowsAs Opener b i number = (b.drawer ≡ i) × (number ≡ b.counter) × (b.reader ≡ none)
KnowsAs Drawing b i number = (b.drawer ≡ i) × (number ≡ b.counter)
KnowsAs Drawn b i number = (b.drawer ≡ i) × (number + 1 ≡ b.counter) × (b.pointer ≤ number) × (b.turn number ≡ i)
KnowsAs Waiting b i number = (number < b.counter) × (b.pointer ≤ number) × (b.turn number ≡ i)
KnowsAs (Working stage) b i number = (number < b.counter) × (number ≡ b.pointer) × (b.turn number ≡ i) × (stage ≡ b.stage)
KnowsAs Ended b i number = (number < b.pointer) × (b.turn number ≡ i)
KnowsAs Reading b i number = b.reader ≡ some i

-- The view v of the seat i. Only the reader has pages, and those are below a number that it was shown, which is at most the pointer.
pub record Knows (clip : ClipData) (b : Board) (i : ℕ) (v : View) : Type 0 where
  pub clip_is : v.clip ≡ clip
  pub role : KnowsAs v.role b i v.number
  pub shown : v.shown ≤ b.pointer
  pub taken : (j : ℕ) → IsAmong j v.taken → (v.role ≡ Reading) × (j < v.shown) × (b.taken j ≡ some i)

-- A ticket works, and its number is the pointer's.
abbrev pub OneWorks : Stage → Board → List View → Type 0
OneWorks stage b views = (v : View) × (get_elem? views (b.turn b.pointer) ≡ some v) × (v.role ≡ Working stage) × (v.number ≡ b.pointer)

-- So it is, unless the page and the cursor are as they are before the job.
abbrev pub AreWorking : Stage → Board → List View → Type 0
AreWorking Ready b views = Unit {0}
AreWorking CursorTaken b views = OneWorks CursorTaken b views
AreWorking PageTaken b views = OneWorks PageTaken b views
AreWorking PageHome b views = OneWorks PageHome b views
AreWorking CursorHome b views = OneWorks CursorHome b views

-- The cursor comes to the pointer's page, or to the next one once that is filled. It is at home, or with the ticket that works.
abbrev pub CursorLies : ClipData → Stage → ℕ → Home → Type 0
CursorLies clip Ready pointer cell = (x : Cursor) × (cell ≡ some (some (Decoder x))) × ComesTo clip pointer x
CursorLies clip CursorTaken pointer cell = cell ≡ some none
CursorLies clip PageTaken pointer cell = cell ≡ some none
CursorLies clip PageHome pointer cell = cell ≡ some none
CursorLies clip CursorHome pointer cell = (x : Cursor) × (cell ≡ some (some (Decoder x))) × ComesTo clip (pointer + 1) x

-- The pointer's page is empty until the job has filled it. It is at home, or with the ticket that works.
abbrev pub NextPageLies : ClipData → Stage → ℕ → Home → Type 0
NextPageLies clip Ready pointer cell = cell ≡ some (some (Page (empty_page clip)))
NextPageLies clip CursorTaken pointer cell = cell ≡ some (some (Page (empty_page clip)))
NextPageLies clip PageTaken pointer cell = cell ≡ some none
NextPageLies clip PageHome pointer cell = cell ≡ some (some (Page (page_of clip pointer)))
NextPageLies clip CursorHome pointer cell = cell ≡ some (some (Page (page_of clip pointer)))

-- A page below the pointer has its samples at home, or is with the reader.
abbrev pub ShownPageLies : ClipData → List View → mathlib.Core.Option.Option ℕ → ℕ → Home → Type 0
ShownPageLies clip views none j cell = cell ≡ some (some (Page (page_of clip j)))
ShownPageLies clip views (some i) j cell = (cell ≡ some none) × ((v : View) × (get_elem? views i ≡ some v) × IsAmong j v.taken)

pub record PageLies (clip : ClipData) (b : Board) (views : List View) (j : ℕ) (cell : Home) : Type 0 where
  pub before : j < b.pointer → ShownPageLies clip views (b.taken j) j cell
  pub here : j ≡ b.pointer → NextPageLies clip b.stage j cell
  pub behind : b.pointer < j → cell ≡ some (some (Page (empty_page clip)))

pub record Turns (clip : ClipData) (pages : ℕ) (b : Board) (homes : List (mathlib.Core.Option.Option Cell)) (views : List View) : Type 0 where
  pub bounds : (b.pointer ≤ b.counter) × (b.counter ≤ pages)
  pub works : AreWorking b.stage b views
  pub cursor : CursorLies clip b.stage b.pointer (get_elem? homes pages)
  pub page : (j : ℕ) → j < pages → PageLies clip b views j (get_elem? homes j)
  pub seat : (i : ℕ) (v : View) → get_elem? views i ≡ some v → Knows clip b i v

pub record Kept (k : Opening) (s : State Cell View) : Type 0 where
  pub board : Board
  pub few : page_total k.clip < 2 ^ 32
  pub words : s.words ≡ board.counter ∷ board.pointer ∷ []
  pub homes : length s.homes ≡ page_total k.clip + 1
  pub turns : Turns k.clip (page_total k.clip) board s.homes s.views
