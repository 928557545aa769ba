-- What each answer of a fetch says of what is fetched, where the files are told.
use Rattle.std.specs.Prelude.{◌≡◌, ℕ, ◌<◌, List, Bool, true, false, Result, Ok, Err}
use Rattle.snd_io.specs.declared.answers.FetchFault.{FetchFault}
use Rattle.snd_io.specs.declared.answers.FetchFault.TheVariants as files
use Rattle.resource_mgr.specs.declared.lib_fault.LibFault.{LibFault}
use Rattle.resource_mgr.specs.declared.lib_fault.LibFault.TheVariants.{DepotFault, Absent, TooLong, File, OutOfMemory}

-- a file wasn't given as is said, or the store failed, or there was no memory
abbrev pub EndsFile : FetchFault → Result (List ℕ) FetchFault → Type 0
EndsFile files.Absent said = said ≡ Err files.Absent
EndsFile files.TooLong said = said ≡ Err files.TooLong
EndsFile files.Failed said = Unit {0}
EndsFile files.OutOfMemory said = Unit {0}

-- a fetch gave the bytes that are said, as `view` sees them, or ended
abbrev pub GivesFile : {A : Type 0} → (A → List ℕ) → Result A FetchFault → Result (List ℕ) FetchFault → Type 0
GivesFile view (Ok x) said = said ≡ Ok (view x)
GivesFile view (Err fault) said = EndsFile fault said

-- whether it ended because the store failed
abbrev pub is_file_depot_fault : FetchFault → Bool
is_file_depot_fault files.Absent = false
is_file_depot_fault files.TooLong = false
is_file_depot_fault files.Failed = true
is_file_depot_fault files.OutOfMemory = false

abbrev pub file_stopped_by_depot : {A : Type 0} → Result A FetchFault → Bool
file_stopped_by_depot (Ok x) = false
file_stopped_by_depot (Err fault) = is_file_depot_fault fault

-- the sound files were refused as is said, or the store failed, or there was no memory
abbrev pub Ends : {A : Type 0} → LibFault → Result A LibFault → Type 0
Ends DepotFault said = Unit {0}
Ends (Absent resource) said = said ≡ Err (Absent resource)
Ends (TooLong resource limit) said = said ≡ Err (TooLong resource limit)
Ends (File resource fault) said = said ≡ Err (File resource fault)
Ends OutOfMemory said = Unit {0}

-- a part of the fetch gave what is said, as `view` sees it, or ended
abbrev pub GivesBy : {A B : Type 0} → (A → B) → Result A LibFault → Result B LibFault → Type 0
GivesBy view (Ok x) said = said ≡ Ok (view x)
GivesBy view (Err fault) said = Ends fault said

-- whether it ended because the store failed
abbrev pub is_depot_fault : LibFault → Bool
is_depot_fault DepotFault = true
is_depot_fault (Absent resource) = false
is_depot_fault (TooLong resource limit) = false
is_depot_fault (File resource fault) = false
is_depot_fault OutOfMemory = false

abbrev pub stopped_by_depot : {A : Type 0} → Result A LibFault → Bool
stopped_by_depot (Ok x) = false
stopped_by_depot (Err fault) = is_depot_fault fault

-- the resource that it names, if it names one, is one of the first so many
abbrev pub NamesOneOf : ℕ → LibFault → Type 0
NamesOneOf count DepotFault = Unit {0}
NamesOneOf count (Absent resource) = resource < count
NamesOneOf count (TooLong resource limit) = resource < count
NamesOneOf count (File resource fault) = resource < count
NamesOneOf count OutOfMemory = Unit {0}

-- it is what a file that is there can end with: the resource's own refusal, or want of memory
abbrev pub IsOfFile : ℕ → LibFault → Type 0
IsOfFile number DepotFault = ⊥
IsOfFile number (Absent resource) = ⊥
IsOfFile number (TooLong resource limit) = resource ≡ number
IsOfFile number (File resource fault) = resource ≡ number
IsOfFile number OutOfMemory = Unit {0}
