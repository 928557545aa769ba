-- What the fakes hold: a list of entries, of which the first of a name counts.
use Rattle.std.specs.Prelude.{◌≡◌, ℕ, List, [], ◌∷◌, Option, Some, None, map, string_bytes, IfSome}
use Rattle.std.specs.FinMap.{from_entries}
use Rattle.std.specs.Ordering.{nat_cmp}
use Rattle.std.specs.Cmp.Lexicographic.{slice_cmp}
use Rattle.snd_io.specs.declared.entries.Entry.{Entry}
use Rattle.snd_io.specs.Files.{Files, extend_file}

-- the name and the bytes of an entry
abbrev pub named_bytes : Entry → List ℕ × List ℕ
named_bytes entry = (string_bytes entry.name, entry.bytes.items)

abbrev pub files_of : List Entry → Files
files_of entries = from_entries {R = slice_cmp nat_cmp} (map named_bytes entries)

abbrev pub first_name : List Entry → Option (List ℕ)
first_name [] = None
first_name (entry ∷ entries) = Some (string_bytes entry.name)

-- the file of the first entry got these bytes more
abbrev pub ExtendsFirst : List ℕ → List Entry → List Entry → Type 0
ExtendsFirst bytes before after = IfSome (first_name before) (λ name. files_of after ≡ extend_file name bytes (files_of before))
