-- The edits of a script in the order in which a scene makes them, and those of one editor.
use Rattle.std.specs.Prelude.{ℕ, suc, ◌==◌, nat_lt, List, [], ◌∷◌, filter, fold, if◌then◌else◌}
use Rattle.scene_model.specs.declared.edit.EditRow.{EditRow}
use Rattle.scene_model.specs.declared.order.NumberedEdit.{NumberedEdit}

-- the rows with their numbers, where the first has that number
abbrev pub numbered : ℕ → List EditRow → List NumberedEdit
numbered number [] = []
numbered number (row ∷ rows) = record { number = number; row = row } ∷ numbered (suc number) rows

-- an edit before the first of these whose frame is later, or behind all
abbrev pub put : List NumberedEdit → NumberedEdit → List NumberedEdit
put [] e = e ∷ []
put (x ∷ placed) e = if nat_lt e.row.at x.row.at then e ∷ x ∷ placed else x ∷ put placed e

-- the rows in the order of their frames, and those of one frame in the order of their numbers
abbrev pub in_order : List EditRow → List NumberedEdit
in_order rows = fold put [] (numbered 0 rows)

-- the rows of one editor with their numbers, in the order of rows: its edits from the first on
abbrev pub edits_of : ℕ → List EditRow → List NumberedEdit
edits_of editor rows = filter (λ (e : NumberedEdit). e.row.editor == editor) (numbered 0 rows)
