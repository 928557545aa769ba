-- Tapes, as contracts see them.
use Rattle.std.specs.Prelude.{◌≡◌, ℕ, ◌<◌, ◌≤◌, List, ◌∷◌, [], ◌++◌, All, map}
use Rattle.std.specs.List.{AllZip}
use Rattle.clip_decode.specs.ClipData.{ClipData}
use Rattle.wave_read.specs.declared.wave.Wave.{Wave}
use Rattle.exec_reel.specs.ClipPages.{page_total}
use Rattle.exec_reel.specs.Reels.{clip_of_reader, shown_of, notes_of_reader}
use Rattle.exec_reel.specs.declared.view.Note.{Note}
use Rattle.exec_reel.specs.declared.view.Note.TheVariants.{LoadPointer}
use Rattle.resource_mgr.specs.Reading.{HasFirst, IsLaterReader}
use Rattle.resource_mgr.specs.declared.tape.Tape.{Tape}

-- the clip whose pages the tape has, the bytes of its file, and what they say of their sound
abbrev pub clip_of : Tape → ClipData
clip_of t = clip_of_reader t.reader

abbrev pub bytes_of : Tape → List ℕ
bytes_of t = (clip_of t).bytes

abbrev pub wave_of : Tape → Wave
wave_of t = (clip_of t).wave

-- the files of the clips of tapes
abbrev pub files_of : List Tape → List (List ℕ)
files_of tapes = map bytes_of tapes

-- how many pages were shown to the tape so far, from page 0 on, and the notes of its steps
abbrev pub shown_to : Tape → ℕ
shown_to t = shown_of t.reader

abbrev pub notes_of : Tape → List Note
notes_of t = notes_of_reader t.reader

-- so many of the first pages are at hand
abbrev pub HasPages : ℕ → Tape → Type 0
HasPages count t = HasFirst count t.reader

-- the tape of a clip, to which all pages were shown
pub record IsWholeTape (clip : ClipData) (t : Tape) : Type 0 where
  pub clip_is : clip_of t ≡ clip
  pub whole : page_total clip ≤ shown_to t

-- to each of these tapes all pages were shown
abbrev pub AreShown : List Tape → Type 0
AreShown tapes = All (λ t. page_total (clip_of t) ≤ shown_to t) tapes

-- the tapes of these clips, in their order, to which all pages were shown
pub record AreWholeTapes (clips : List ClipData) (tapes : List Tape) : Type 0 where
  pub clips_are : map clip_of tapes ≡ clips
  pub whole : AreShown tapes

-- the tape after some calls
abbrev pub IsLater : Tape → Tape → Type 0
IsLater t t' = IsLaterReader t.reader t'.reader

-- the same of tapes, in their order
abbrev pub AreLater : List Tape → List Tape → Type 0
AreLater tapes tapes' = AllZip IsLater tapes tapes'

-- In some calls the tape wasn't shown page k, which there is: the last of them loaded a pointer of at most k, which is what was shown
-- then.
pub record WasNotShown (t t' : Tape) (k shown : ℕ) : Type 0 where
  pub later : IsLater t t'
  pub there : k < page_total (clip_of t)
  pub before : shown_to t ≤ k
  pub most : shown ≤ k
  pub shown_is : shown_to t' ≡ shown
  pub earlier : List Note
  pub notes : notes_of t' ≡ (notes_of t ++ earlier) ++ LoadPointer shown ∷ []
