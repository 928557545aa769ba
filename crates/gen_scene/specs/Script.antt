-- The script, line by line.
use Rattle.std.specs.Prelude.{ℕ, ◌*◌, ◌/◌, ◌%◌, ◌==◌, if◌then◌else◌, List, [], ◌∷◌, ◌++◌, codes}
use Rattle.std.specs.Fmt.{decimal}
use Rattle.std.specs.List.{flat_map, range_with_len}
use Rattle.gen_scene.specs.Draws.{draw, state}
use Rattle.gen_scene.specs.Sounds.{sounds, first_draw, sound_name}

abbrev pub groups : ℕ
groups = 4

abbrev pub players : ℕ
players = 32

abbrev pub edits : ℕ
edits = 256

abbrev pub line : List ℕ → List ℕ
line text = text ++ 10 ∷ []

-- a key and its value, which is a number, or a text in quotes
abbrev pub number_line : List ℕ → ℕ → List ℕ
number_line key value = line (key ++ codes " = " ++ decimal value)

abbrev pub text_line : List ℕ → List ℕ → List ℕ
text_line key value = line (key ++ codes " = \"" ++ value ++ codes "\"")

unfoldable pub top_lines : List ℕ
top_lines =
    line (codes "version = 1") ++ line (codes "rate = 48000") ++ line (codes "channels = 2") ++ line (codes "width = 24")
    ++ line (codes "length = 480000")

-- the lines of the rows with the numbers below count
unfoldable pub rows : ℕ → (ℕ → List ℕ) → List ℕ
rows count lines = flat_map lines (range_with_len 0 count)

-- a letter and a number
abbrev pub numbered : List ℕ → ℕ → List ℕ
numbered letter n = letter ++ decimal n

unfoldable pub resource_lines : List ℕ → ℕ → List ℕ
resource_lines prefix i =
    line (codes "[[resource]]") ++ text_line (codes "name") (numbered (codes "r") i) ++ text_line (codes "file") (sound_name prefix i)

unfoldable pub group_lines : ℕ → List ℕ
group_lines j = line (codes "[[node]]") ++ text_line (codes "kind") (codes "group") ++ text_line (codes "name") (numbered (codes "g") j)

unfoldable pub player_name_lines : ℕ → List ℕ
player_name_lines k = line (codes "[[node]]") ++ text_line (codes "kind") (codes "sound") ++ text_line (codes "name") (numbered (codes "s") k)

unfoldable pub player_source_lines : ℕ → List ℕ
player_source_lines k = text_line (codes "resource") (numbered (codes "r") (k % sounds)) ++ line (codes "loop = true")

unfoldable pub player_lines : ℕ → List ℕ
player_lines k = player_name_lines k ++ player_source_lines k

unfoldable pub group_bus_lines : ℕ → List ℕ
group_bus_lines j = line (codes "[[bus]]") ++ text_line (codes "node") (numbered (codes "g") j) ++ text_line (codes "to") (codes "endpoint")

-- with its gain, a 16th of a draw
unfoldable pub player_bus_lines : ℕ → ℕ → List ℕ
player_bus_lines gain k =
    line (codes "[[bus]]") ++ text_line (codes "node") (numbered (codes "s") k)
    ++ text_line (codes "to") (numbered (codes "g") (k % groups)) ++ number_line (codes "gain") gain

-- An edit by its three draws: its frame is 7 times the first, its node the second modulo 32. Where its number is even it is
-- a gain of a 16th of the third, and else a seek to the third.
abbrev pub edit_op : ℕ → List ℕ
edit_op e = if e % 2 == 0 then codes "gain" else codes "seek"

abbrev pub edit_value : ℕ → ℕ → ℕ
edit_value e third = if e % 2 == 0 then third / 16 else third

unfoldable pub edit_text : ℕ → ℕ → ℕ → ℕ → List ℕ
edit_text e at node value =
    line (codes "[[edit]]") ++ text_line (codes "op") (edit_op e) ++ number_line (codes "at") at
    ++ text_line (codes "node") (numbered (codes "s") node) ++ number_line (codes "value") value

abbrev pub edit_lines : ℕ → ℕ → ℕ → ℕ → List ℕ
edit_lines e first second third = edit_text e (7 * first) (second % players) (edit_value e third)

-- the draws from a state on: one a player, and then three an edit
abbrev pub player_bus : ℕ → ℕ → List ℕ
player_bus start k = player_bus_lines (draw start k / 16) k

-- an edit by the three draws from a state on
abbrev pub edit_row_at : ℕ → ℕ → List ℕ
edit_row_at start e = edit_lines e (draw start 0) (draw start 1) (draw start 2)

abbrev pub edit_row : ℕ → ℕ → List ℕ
edit_row start e = edit_row_at (state start (3 * e)) e

unfoldable pub script_from : ℕ → List ℕ → List ℕ
script_from start prefix =
    top_lines
    ++ rows sounds (resource_lines prefix)
    ++ rows groups group_lines
    ++ rows players player_lines
    ++ rows groups group_bus_lines
    ++ rows players (player_bus start)
    ++ rows edits (edit_row (state start players))

-- the script takes the draws that follow those of the sounds
abbrev pub script : ℕ → List ℕ → List ℕ
script number prefix = script_from (state number (first_draw sounds)) prefix

-- PREFIX.toml
abbrev pub script_name : List ℕ → List ℕ
script_name prefix = prefix ++ codes ".toml"
