-- What a tag shows of its view when the program runs.
use Rattle.std.specs.Prelude.{ℕ, Bool, true, false, List, [], ◌∷◌, is_some}
use Rattle.slot_tags.specs.declared.view.Role.{Role}
use Rattle.slot_tags.specs.declared.view.Role.TheVariants.{Held}
use Rattle.slot_tags.specs.declared.view.View.{View}
use Rattle.slot_tags.specs.Steps.{spent}

abbrev pub is_held : Role → Bool
is_held Held = true
is_held _ = false

-- whether it has its slot with its number and the cell at home, the two numbers, and whether it is full
abbrev pub shown : View → Bool × ℕ × ℕ × Bool
shown v = (is_held v.role, v.slot, v.number, is_some v.job)

-- the view of a badge that has one
abbrev pub view_of : List View → View
view_of [] = spent
view_of (v ∷ vs) = v
