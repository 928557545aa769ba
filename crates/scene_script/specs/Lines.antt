-- The lines of a text, as an editor counts them: from 1, each up to a newline.
use Rattle.std.specs.Prelude.{ℕ, ◌+◌, ◌-◌, ◌==◌, ◌&&◌, Bool, not, if◌then◌else◌, codes, List, [], ◌∷◌, ◌++◌, length, take, count_by, Option, None}
use Rattle.std.specs.Option.{option_map}
use Rattle.std.specs.Prelude.{slice_get}
use Rattle.memchr.specs.Find.{matches}
use Rattle.scene_script.specs.declared.fault.TableKind.{TableKind}
use Rattle.scene_script.specs.FaultText.{table_text}

-- the number of the line that begins behind the newline at that place
abbrev pub line_behind : List ℕ → ℕ → ℕ
line_behind text place = count_by (λ b. b == 10) (take (place + 1) text) + 1

-- a newline, and then the header of a row
abbrev pub header_of : TableKind → List ℕ
header_of table = 10 ∷ codes "[[" ++ table_text table ++ codes "]]"

-- the newlines behind which a line begins with the header of a row
abbrev pub headers : TableKind → List ℕ → List ℕ
headers table text = matches text (header_of table) 0

-- the text has no string of several lines, so that each line that begins as a header is one
abbrev pub has_plain_lines : List ℕ → Bool
has_plain_lines text =
    (length (matches text (34 ∷ 34 ∷ 34 ∷ []) 0) == 0) && (length (matches text (39 ∷ 39 ∷ 39 ∷ []) 0) == 0)

-- the line of a table's row of that number, from 1: where the lines that begin as its headers are as many as its rows
unfoldable pub row_line : TableKind → ℕ → ℕ → List ℕ → Option ℕ
row_line t rows row text =
    if not (row == 0) && has_plain_lines text && (length (headers t text) == rows)
    then option_map (line_behind text) (slice_get (headers t text) (row - 1)) else None
