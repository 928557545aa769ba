-- What a row gave, among the rows that were read.
use Rattle.std.specs.Prelude.{◌≡◌, List, [], ◌∷◌, ◌++◌, length, Result, Ok}
use Rattle.scene_script.specs.declared.fault.SceneFault.{SceneFault}
use Rattle.scene_script.specs.Checked.{each}

-- The row gave the value at its place among all: what it says by the values of the rows before it.
pub record IsReadInPlace {A B : Type 0} (one : List B → A → Result B SceneFault) (before : List A) (row : A) (all : List B) : Type 0 where
  pub read : List B
  pub value : B
  pub later : List B
  pub before_is : each one [] before ≡ Ok read
  pub as_many : length read ≡ length before
  pub row_is : one read row ≡ Ok value
  pub all_are : all ≡ read ++ value ∷ later

-- There is one value for each row, and each row gave the one at its place.
pub record AreReadInOrder {A B : Type 0} (one : List B → A → Result B SceneFault) (rows : List A) (all : List B) : Type 0 where
  pub as_many : length all ≡ length rows
  pub each_row : (before : List A) (row : A) (behind : List A) → rows ≡ before ++ row ∷ behind → IsReadInPlace one before row all
