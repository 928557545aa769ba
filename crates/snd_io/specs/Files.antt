-- A store of files as contracts see it: a finite map from names to bytes.
use Rattle.std.specs.Prelude.{ℕ, List, [], ◌++◌, Option, unwrap_or}
use Rattle.std.specs.FinMap.{FinMap, get, insert}
use Rattle.std.specs.Cmp.Lexicographic.{slice_cmp}
use Rattle.std.specs.Ordering.{nat_cmp}

abbrev pub Files : Type 0
Files = FinMap (slice_cmp nat_cmp) (List ℕ)

-- the files of a store that tells them, and nothing of one that doesn't
abbrev pub Told : Type 0
Told = Option Files

-- the bytes under a name, and none where the name isn't there
abbrev pub content : List ℕ → Files → List ℕ
content name files = unwrap_or (get files name) []

-- the files with the name set to these bytes, and every other name as before
abbrev pub put_file : List ℕ → List ℕ → Files → Files
put_file name bytes files = insert files name bytes

-- the files with these bytes after those under the name, and every other name as before
abbrev pub extend_file : List ℕ → List ℕ → Files → Files
extend_file name bytes files = put_file name (content name files ++ bytes) files
