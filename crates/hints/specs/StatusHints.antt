-- What is said to a person of a status.
use Rattle.std.specs.Prelude.{ℕ, ◌/◌, codes, List, ◌++◌, Option, None, Some}
use Rattle.std.specs.Fmt.{decimal}
use Rattle.hints.specs.declared.program.Program.{Program}
use Rattle.hints.specs.declared.program.Program.TheVariants.{Scenetool, Scenerender, Sceneview}

-- the name of a program
abbrev pub program_name : Program → List ℕ
program_name Scenetool = codes "scenetool"
program_name Scenerender = codes "scenerender"
program_name Sceneview = codes "sceneview"

-- its forms
abbrev pub program_forms : Program → List ℕ
program_forms Scenetool = codes "mix SCENE OUT, info FILE, gen NUMBER PREFIX or fx FILE OUT COUNT EFFECT .."
program_forms Scenerender = codes "render SCENE OUT WORKERS"
program_forms Sceneview = codes "SCENE [FRAME]"

-- the word that doesn't fit, where it is there
abbrev pub word_text : Option (List ℕ) → List ℕ
word_text None = codes "a word is missing"
word_text (Some word) = codes "the word \"" ++ word ++ codes "\" doesn't fit"

-- Words that are no form: the word, the forms, and where more is said.
unfoldable pub usage_text : Program → Option (List ℕ) → List ℕ
usage_text program word =
    program_name program ++ codes ": " ++ word_text word ++ codes "\nits forms: " ++ program_forms program
    ++ codes "\n" ++ program_name program ++ codes " --help says more\n"

-- want of memory
unfoldable pub memory_text : Program → List ℕ
memory_text program = program_name program ++ codes ": there wasn't enough memory\n"

-- a store of files that failed
unfoldable pub store_text : Program → List ℕ
store_text program =
    program_name program ++ codes ": a file couldn't be read or written: the disk may be full, a path that of a directory, or the file not allowed\n"

-- a file that isn't there
unfoldable pub absent_text : List ℕ → List ℕ
absent_text name = name ++ codes ": there is no such file; paths are from the directory that you are in\n"

-- a file that is too long
unfoldable pub long_text : List ℕ → ℕ → List ℕ
long_text name limit =
    name ++ codes ": with this file there are more than " ++ decimal limit ++ codes " bytes (" ++ decimal (limit / 1048576)
    ++ codes " MiB), the most that is read\n"

-- a line that couldn't be printed
unfoldable pub unprinted_text : Program → List ℕ
unprinted_text program = program_name program ++ codes ": standard output couldn't be written; all files are\n"
