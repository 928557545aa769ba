-- What each answer of a store of files or of a sink says.
use Rattle.std.specs.Prelude.{◌≡◌, ℕ, ◌<◌, ◌≤◌, ◌⊎◌, List, [], ◌++◌, length, Option, Some, None, IsSomeAnd, Bool, true, false, Result, Ok, Err}
use Rattle.std.specs.Option.{option_map}
use Rattle.snd_io.specs.declared.answers.Fetch.{Fetch}
use Rattle.snd_io.specs.declared.answers.Fetch.TheVariants.{Fetched, Absent, TooLong, Failed as FetchFailed, OutOfMemory as FetchOutOfMemory}
use Rattle.snd_io.specs.declared.answers.Put.{Put}
use Rattle.snd_io.specs.declared.answers.Put.TheVariants.{Done, Failed, OutOfMemory}
use Rattle.snd_io.specs.declared.answers.FetchFault.{FetchFault}
use Rattle.snd_io.specs.declared.answers.FetchFault.TheVariants as fetch_fault
use Rattle.snd_io.specs.declared.answers.PutFault.{PutFault}
use Rattle.snd_io.specs.declared.answers.PutFault.TheVariants as put_fault
use Rattle.snd_io.specs.Files.{Told, put_file, extend_file}

abbrev pub fetch_failed : Fetch → Bool
fetch_failed FetchFailed = true
fetch_failed Fetched = false
fetch_failed Absent = false
fetch_failed TooLong = false
fetch_failed FetchOutOfMemory = false

abbrev pub put_failed : Put → Bool
put_failed Done = false
put_failed Failed = true
put_failed OutOfMemory = false

-- the answer that a result stands for
abbrev pub fetch_fault_of : FetchFault → Fetch
fetch_fault_of fetch_fault.Absent = Absent
fetch_fault_of fetch_fault.TooLong = TooLong
fetch_fault_of fetch_fault.Failed = FetchFailed
fetch_fault_of fetch_fault.OutOfMemory = FetchOutOfMemory

abbrev pub fetch_of : {A : Type 0} → Result A FetchFault → Fetch
fetch_of (Ok x) = Fetched
fetch_of (Err fault) = fetch_fault_of fault

abbrev pub put_fault_of : PutFault → Put
put_fault_of put_fault.Failed = Failed
put_fault_of put_fault.OutOfMemory = OutOfMemory

abbrev pub put_of : {A : Type 0} → Result A PutFault → Put
put_of (Ok x) = Done
put_of (Err fault) = put_fault_of fault

-- the second list begins with the first
abbrev pub IsPrefix : List ℕ → List ℕ → Type 0
IsPrefix part whole = (rest : List ℕ) × (whole ≡ part ++ rest)

-- what the answer says of the file that was asked for, where the files are told
abbrev pub FetchTells : Fetch → Option (List ℕ) → ℕ → List ℕ → Type 0
FetchTells Fetched file limit bytes = file ≡ Some bytes
FetchTells Absent file limit bytes = file ≡ None
FetchTells TooLong file limit bytes = IsSomeAnd file (λ content. limit < length content)
FetchTells FetchFailed file limit bytes = Unit {0}
FetchTells FetchOutOfMemory file limit bytes = Unit {0}

-- what the answer leaves in the buffer, told or not
abbrev pub FetchLeaves : Fetch → ℕ → List ℕ → Type 0
FetchLeaves Fetched limit bytes = length bytes ≤ limit
FetchLeaves Absent limit bytes = bytes ≡ []
FetchLeaves TooLong limit bytes = bytes ≡ []
FetchLeaves FetchFailed limit bytes = bytes ≡ []
FetchLeaves FetchOutOfMemory limit bytes = bytes ≡ []

-- the name is empty and open; or the files are as before or have it empty, and nothing is open
abbrev pub Creates : Put → List ℕ → Told → Told → Option (List ℕ) → Type 0
Creates Done name before after open_name = (after ≡ option_map (put_file name []) before) × (open_name ≡ Some name)
Creates Failed name before after open_name = ((after ≡ before) ⊎ (after ≡ option_map (put_file name []) before)) × (open_name ≡ None)
Creates OutOfMemory name before after open_name = ((after ≡ before) ⊎ (after ≡ option_map (put_file name []) before)) × (open_name ≡ None)

-- the bytes were appended to the name, which is still open; or a prefix of them was, and nothing is open
abbrev pub Appends : Put → List ℕ → List ℕ → Told → Told → Option (List ℕ) → Type 0
Appends Done name bytes before after open_name = (after ≡ option_map (extend_file name bytes) before) × (open_name ≡ Some name)
Appends Failed name bytes before after open_name =
    ((part : List ℕ) × IsPrefix part bytes × (after ≡ option_map (extend_file name part) before)) × (open_name ≡ None)
Appends OutOfMemory name bytes before after open_name =
    ((part : List ℕ) × IsPrefix part bytes × (after ≡ option_map (extend_file name part) before)) × (open_name ≡ None)

-- the bytes were written, or a prefix of them was
abbrev pub Writes : Put → List ℕ → Option (List ℕ) → Option (List ℕ) → Type 0
Writes Done bytes before after = after ≡ option_map (λ text. text ++ bytes) before
Writes Failed bytes before after = (part : List ℕ) × IsPrefix part bytes × (after ≡ option_map (λ text. text ++ part) before)
Writes OutOfMemory bytes before after = (part : List ℕ) × IsPrefix part bytes × (after ≡ option_map (λ text. text ++ part) before)
