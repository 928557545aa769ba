-- What a store in memory that never fails holds.
use Rattle.std.specs.Prelude.{◌≡◌, ◌≢◌, ℕ, List, [], Option, None, if◌then◌else◌}
use Rattle.snd_io.specs.declared.answers.Put.{Put}
use Rattle.snd_io.specs.declared.answers.Put.TheVariants.{Done, Failed, OutOfMemory}
use Rattle.snd_io.specs.declared.sure_depot.SureDepot.{SureDepot}
use Rattle.snd_io.specs.Files.{Files, extend_file}
use Rattle.snd_io.specs.Fakes.{files_of, first_name}

-- its files; of two entries of one name the newer one counts
abbrev pub sure_files : SureDepot → Files
sure_files depot = files_of depot.entries.items

-- the name that is open for writing
abbrev pub sure_writing : SureDepot → Option (List ℕ)
sure_writing depot = if depot.is_open then first_name depot.entries.items else None

-- the last append to a file, which fails once it took these bytes. It may find no memory where they are any
abbrev pub AppendsLast : Put → List ℕ → List ℕ → Files → Files → Type 0
AppendsLast Done name bytes before after = ⊥
AppendsLast Failed name bytes before after = after ≡ extend_file name bytes before
AppendsLast OutOfMemory name bytes before after = bytes ≢ []
