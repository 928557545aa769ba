-- A file that is written in pieces, and a text that is: what a run of calls did, and how runs follow one another.
use Rattle.std.specs.Prelude.{◌≡◌, ◌⊎◌, ℕ, List, ◌++◌, Option, Some, None}
use Rattle.std.specs.Option.{option_map}
use Rattle.snd_io.specs.declared.answers.Put.{Put}
use Rattle.snd_io.specs.declared.answers.Put.TheVariants.{Done, Failed, OutOfMemory}
use Rattle.snd_io.specs.Files.{Told, put_file}
use Rattle.snd_io.specs.Answers.{IsPrefix}

-- where the name was set to some bytes, it is now set to those and these after them, and every other name is as before
abbrev pub GrowsBy : List ℕ → List ℕ → Told → Told → Type 0
GrowsBy name bytes before after =
    (base : List ℕ) (told : Told) → before ≡ option_map (put_file name base) told → after ≡ option_map (put_file name (base ++ bytes)) told

-- the name got these bytes and is still open; or it got a prefix of them, and nothing is open
abbrev pub RunOfAppends : Put → List ℕ → List ℕ → Told → Told → Option (List ℕ) → Type 0
RunOfAppends Done name bytes before after open_name = GrowsBy name bytes before after × (open_name ≡ Some name)
RunOfAppends Failed name bytes before after open_name =
    ((part : List ℕ) × IsPrefix part bytes × GrowsBy name part before after) × (open_name ≡ None)
RunOfAppends OutOfMemory name bytes before after open_name =
    ((part : List ℕ) × IsPrefix part bytes × GrowsBy name part before after) × (open_name ≡ None)

-- the name is set to these bytes; or the files are as before, or have the name set to a prefix of them
abbrev pub SetsFile : Put → List ℕ → List ℕ → Told → Told → Type 0
SetsFile Done name bytes before after = after ≡ option_map (put_file name bytes) before
SetsFile Failed name bytes before after =
    (after ≡ before) ⊎ ((part : List ℕ) × IsPrefix part bytes × (after ≡ option_map (put_file name part) before))
SetsFile OutOfMemory name bytes before after =
    (after ≡ before) ⊎ ((part : List ℕ) × IsPrefix part bytes × (after ≡ option_map (put_file name part) before))
