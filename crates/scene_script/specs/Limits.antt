-- The numbers of a script that are no limits of its scene.
use Rattle.std.specs.Prelude.{ℕ, ◌+◌, ◌*◌}
use Rattle.scene_model.specs.Limits as limits

-- the greatest gain that a row can name: the greatest number of 32 bits. One above the scene's greatest is refused by its reply
abbrev pub most_named_gain : ℕ
most_named_gain = 4294967295

-- the edits that the rows of a scene stand for: at most two of each bus row, and one of each edit row
abbrev pub most_made : ℕ
most_made = 2 * limits.most_bus_rows + limits.most_edits
