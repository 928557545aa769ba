-- What a call for a page makes of a reader.
use Rattle.std.specs.Prelude.{◌≡◌, ℕ, ◌≤◌, ◌<◌, false, List, [], ◌∷◌, ◌++◌}
use Rattle.exec_reel.specs.declared.view.Note.{Note}
use Rattle.exec_reel.specs.declared.view.Note.TheVariants.{LoadPointer, PageOut}
use Rattle.exec_reel.specs.declared.reader.Reader.{Reader}
use Rattle.exec_reel.specs.Rule.{is_among, IsAmong}
use Rattle.exec_reel.specs.Reels.{reel_of_reader, clip_of_reader, shown_of, taken_of, notes_of_reader}

-- the reader is of the reel and the clip of which it was
abbrev pub SameReel : Reader → Reader → Type 0
SameReel r r' = (reel_of_reader r' ≡ reel_of_reader r) × (clip_of_reader r' ≡ clip_of_reader r)

-- The notes of the look for page k: none where it was shown before, else a load of the pointer, which found what is shown now.
pub record LookNotes (r r' : Reader) (k : ℕ) (notes : List Note) : Type 0 where
  pub before : k < shown_of r → (notes ≡ []) × (shown_of r' ≡ shown_of r)
  pub loaded : shown_of r ≤ k → notes ≡ LoadPointer (shown_of r') ∷ []

-- The notes of the move of page k: none where the reader had it, else the page went out to it.
pub record MoveNotes (r r' : Reader) (k : ℕ) (notes : List Note) : Type 0 where
  pub there : IsAmong k (taken_of r) → (notes ≡ []) × (taken_of r' ≡ taken_of r)
  pub taken : is_among k (taken_of r) ≡ false → ((pointer : ℕ) × (notes ≡ PageOut k pointer ∷ [])) × (taken_of r' ≡ k ∷ taken_of r)

-- page k is shown, before it is taken
pub record Looked (r r' : Reader) (k : ℕ) : Type 0 where
  pub same : SameReel r r'
  pub below : k < shown_of r'
  pub rises : shown_of r ≤ shown_of r'
  pub taken : taken_of r' ≡ taken_of r
  pub look : List Note
  pub looks : LookNotes r r' k look
  pub notes : notes_of_reader r' ≡ notes_of_reader r ++ look

-- the reader has page k, which was shown before
pub record Took (r r' : Reader) (k : ℕ) : Type 0 where
  pub same : SameReel r r'
  pub shown : shown_of r' ≡ shown_of r
  pub has : IsAmong k (taken_of r')
  pub move : List Note
  pub moves : MoveNotes r r' k move
  pub notes : notes_of_reader r' ≡ notes_of_reader r ++ move

-- page k was given
pub record Gave (r r' : Reader) (k : ℕ) : Type 0 where
  pub same : SameReel r r'
  pub below : k < shown_of r'
  pub rises : shown_of r ≤ shown_of r'
  pub has : IsAmong k (taken_of r')
  pub look : List Note
  pub move : List Note
  pub looks : LookNotes r r' k look
  pub moves : MoveNotes r r' k move
  pub notes : notes_of_reader r' ≡ (notes_of_reader r ++ look) ++ move

-- page k isn't shown yet: it wasn't shown before, and the call loaded a pointer of at most k
pub record IsNotYet (r r' : Reader) (k shown : ℕ) : Type 0 where
  pub same : SameReel r r'
  pub before : shown_of r ≤ k
  pub most : shown ≤ k
  pub shown_is : shown_of r' ≡ shown
  pub rises : shown_of r ≤ shown
  pub taken : taken_of r' ≡ taken_of r
  pub notes : notes_of_reader r' ≡ notes_of_reader r ++ LoadPointer shown ∷ []
