-- What is fetched of a file, and of the sound files of resources, and which fault comes first.
use Rattle.std.specs.Prelude.{ℕ, ◌+◌, nat_lt, List, [], ◌∷◌, length, Option, Some, None, Result, Ok, Err, if◌then◌else◌}
use Rattle.std.specs.FinMap.{get}
use Rattle.clip_decode.specs.Limits.{most_sound_bytes}
use Rattle.wave_read.specs.Wave.{wave}
use Rattle.wave_read.specs.declared.wave.Wave.{Wave}
use Rattle.wave_read.specs.declared.wave_fault.WaveFault.{WaveFault}
use Rattle.scene_model.specs.declared.resource.Resource.{Resource}
use Rattle.snd_io.specs.Files.{Files}
use Rattle.snd_io.specs.declared.answers.FetchFault.{FetchFault}
use Rattle.snd_io.specs.declared.answers.FetchFault.TheVariants as files
use Rattle.resource_mgr.specs.declared.lib_fault.LibFault.{LibFault}
use Rattle.resource_mgr.specs.declared.lib_fault.LibFault.TheVariants.{DepotFault, Absent, TooLong, File, OutOfMemory}

-- 128 MiB, of all sound files of a scene
abbrev pub most_total_bytes : ℕ
most_total_bytes = 134217728

-- the first fault is what it comes to
infixl 10 ◌>>=◌
abbrev pub ◌>>=◌ : {A B : Type 0} → Result A LibFault → (A → Result B LibFault) → Result B LibFault
(Ok x) >>= f = f x
(Err fault) >>= f = Err fault

-- a file, which has these bytes if it is there: absent, or longer than the limit, or its bytes
abbrev pub file_fetched : ℕ → Option (List ℕ) → Result (List ℕ) FetchFault
file_fetched limit None = Err files.Absent
file_fetched limit (Some bytes) = if nat_lt limit (length bytes) then Err files.TooLong else Ok bytes

-- the fault of the resource of a number, whose file of at most so many bytes isn't given
abbrev pub fault_of : ℕ → ℕ → FetchFault → LibFault
fault_of resource limit files.Absent = Absent resource
fault_of resource limit files.TooLong = TooLong resource limit
fault_of resource limit files.Failed = DepotFault
fault_of resource limit files.OutOfMemory = OutOfMemory

abbrev pub given_or_fault : ℕ → ℕ → Result (List ℕ) FetchFault → Result (List ℕ) LibFault
given_or_fault resource limit (Ok bytes) = Ok bytes
given_or_fault resource limit (Err fault) = Err (fault_of resource limit fault)

-- the sound file of a resource by itself
abbrev pub own_file : ℕ → Option (List ℕ) → Result (List ℕ) LibFault
own_file resource file = given_or_fault resource most_sound_bytes (file_fetched most_sound_bytes file)

-- with the file that follows them, the sound files have so many bytes in all
abbrev pub within_sum : ℕ → ℕ → List ℕ → Result (List ℕ) LibFault
within_sum resource total bytes =
    if nat_lt most_total_bytes (total + length bytes) then Err (TooLong resource most_total_bytes) else Ok bytes

-- what a sound file says of its sound
abbrev pub said_or_fault : ℕ → Result Wave WaveFault → Result Wave LibFault
said_or_fault resource (Ok w) = Ok w
said_or_fault resource (Err fault) = Err (File resource fault)

-- The sound file of a resource, after files of so many bytes in all: its absence, its own length, the sum of the files, the
-- fault of the file.
abbrev pub clip_of : ℕ → ℕ → List ℕ → Result (List ℕ) LibFault
clip_of resource total file = do
  bytes ← within_sum resource total file
  w ← said_or_fault resource (wave bytes)
  Ok bytes

abbrev pub clip_fetched : ℕ → ℕ → Option (List ℕ) → Result (List ℕ) LibFault
clip_fetched resource total file = own_file resource file >>= clip_of resource total

-- The bytes of the clips of resources in their order, where the first has that number and the files before it have so many
-- bytes in all. A file that two resources name counts twice.
abbrev pub clips_from : Files → ℕ → ℕ → List Resource → Result (List (List ℕ)) LibFault
clips_from files number total [] = Ok []
clips_from files number total (resource ∷ more) = do
  bytes ← clip_fetched number total (get files resource.file)
  clips ← clips_from files (number + 1) (total + length bytes) more
  Ok (bytes ∷ clips)

abbrev pub clips_fetched : Files → List Resource → Result (List (List ℕ)) LibFault
clips_fetched files resources = clips_from files 0 0 resources
