-- What was heard of a file, and which lists of it are lawful.
use Rattle.std.specs.Prelude.{◌≡◌, ℕ, ◌+◌, ◌≤◌, ℤ, List, [], ◌∷◌, All, cond}
use Rattle.std.specs.Coded.{×_prop, →_prop, Unit-prop, le_prop, Coded-set, coded_ℕ}
use Rattle.clip_decode.specs.Frames.{interleaved}
use Rattle.clip_decode.specs.Pages.{page_frames}
use Rattle.stream_reel.specs.declared.buffer.Buffer.{Buffer}
use Rattle.stream_reel.specs.declared.buffer.Held.{Held}

-- a page that was heard: the round in which it was heard, its number in the file, and its samples, interleaved
pub record Entry : Type 0 where
  pub round : ℕ
  pub number : ℕ
  pub samples : List ℤ

abbrev pub entry_of : Buffer → Entry
entry_of b = record { round = b.round; number = b.number; samples = b.page.samples }

-- the pages of the buffers that were heard, of a list of buffers
abbrev pub heard_of : List Held → List Entry
heard_of [] = []
heard_of (h ∷ hs) = cond h.heard (entry_of h.buffer ∷ heard_of hs) (heard_of hs)

-- y may be heard directly after x: the round doesn't fall, and in one round the number rises by 1
abbrev pub Follows : Entry → Entry → Type 0
Follows x y = (x.round ≤ y.round) × (x.round ≡ y.round → y.number ≡ x.number + 1)

abbrev pub Leads : Entry → List Entry → Type 0
Leads x [] = Unit {0}
Leads x (y ∷ ys) = Follows x y

-- each entry may be heard directly after the one before it
abbrev pub InOrder : List Entry → Type 0
InOrder [] = Unit {0}
InOrder (x ∷ xs) = Leads x xs × InOrder xs

pub Leads-prop : (x : Entry) (xs : List Entry) → IsProp (Leads x xs)
Leads-prop x [] = Unit-prop
Leads-prop x (y ∷ ys) = ×_prop le_prop (→_prop (Coded-set coded_ℕ _ _))

pub InOrder-prop : (xs : List Entry) → IsProp (InOrder xs)
InOrder-prop [] = Unit-prop
InOrder-prop (x ∷ xs) = ×_prop (Leads-prop x xs) (InOrder-prop xs)

-- the samples are those of the file's page with this number
abbrev pub IsPageOf : List ℕ → Entry → Type 0
IsPageOf bytes e = e.samples ≡ interleaved (page_frames bytes e.number)

-- what may be heard of a file
pub record IsLawful (bytes : List ℕ) (heard : List Entry) : Type 0 where
  pub order : InOrder heard
  pub pages : All (IsPageOf bytes) heard
