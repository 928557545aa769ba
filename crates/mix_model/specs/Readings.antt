-- Readings of a board of words, whose history grows while they are made.
use Rattle.std.specs.Prelude.{◌≡◌, ◌≤◌, ◌<◌, ℕ, suc, List, [], ◌∷◌, length, slice_index}

-- how many entries the history had when the reading began, and when it ended, and the words that it found, in order
pub record ReadingData : Type 0 where
  pub from : ℕ
  pub until : ℕ
  pub words : List ℕ

-- a window that is in order and ends within a history of that length
pub record IsWindow (from until entries : ℕ) : Type 0 where
  pub in_order : from ≤ until
  pub within : until ≤ entries

-- A number of entries after which may have stood what was found in a window. An entry is made before it is counted, so it is
-- up to one past the window's end.
pub record IsWithin (from until entries count : ℕ) : Type 0 where
  pub from_least : from ≤ count
  pub until_most : count ≤ suc until
  pub within : count ≤ entries

-- the word stood there after some number of entries within the window, by what stood there after each number
pub record Stood (word_after : ℕ → ℕ) (from until entries word : ℕ) : Type 0 where
  pub count : ℕ
  pub within : IsWithin from until entries count
  pub word_is : word ≡ word_after count

-- and so did each of these words, at the places from 0 on
abbrev pub AllStood : (ℕ → ℕ → ℕ) → ℕ → ℕ → ℕ → List ℕ → Type 0
AllStood word_after from until entries words =
    (place : ℕ) → place < length words → Stood (word_after place) from until entries (slice_index words place)

-- A lawful reading of a board that has that many places. The words may have stood there at different times, but each of them
-- within the window.
pub record IsLawfulReading (word_after : ℕ → ℕ → ℕ) (entries places : ℕ) (r : ReadingData) : Type 0 where
  pub window : IsWindow r.from r.until entries
  pub length_is : length r.words ≡ places
  pub words_are : AllStood word_after r.from r.until entries r.words

-- lawful readings, none of which begins before the one before it has ended, and the first not before that number
abbrev pub AreLawfulReadings : (ℕ → ℕ → ℕ) → ℕ → ℕ → ℕ → List ReadingData → Type 0
AreLawfulReadings word_after entries places least [] = Unit {0}
AreLawfulReadings word_after entries places least (r ∷ rs) =
    (least ≤ r.from) × IsLawfulReading word_after entries places r × AreLawfulReadings word_after entries places r.until rs
