-- What is read of a scene and of its sound files, and which refusal comes first.
use Rattle.std.specs.Prelude.{◌≡◌, ℕ, zero, suc, Bool, true, false, List, [], ◌∷◌, Option, Result, Ok, Err}
use Rattle.clip_decode.specs.Limits.{most_sound_bytes}
use Rattle.wave_read.specs.Wave.{wave}
use Rattle.wave_read.specs.declared.wave.Wave.{Wave}
use Rattle.wave_read.specs.declared.wave_fault.WaveFault.{WaveFault}
use Rattle.scene_model.specs.declared.resource.Resource.{Resource}
use Rattle.scene_model.specs.SceneData.{SceneData}
use Rattle.snd_io.specs.Files.{Files}
use Rattle.snd_io.specs.declared.answers.FetchFault.{FetchFault}
use Rattle.snd_io.specs.declared.answers.FetchFault.TheVariants as files
use Rattle.resource_mgr.specs.Fetching.{file_fetched, clips_fetched}
use Rattle.resource_mgr.specs.declared.lib_fault.LibFault.{LibFault}
use Rattle.resource_mgr.specs.declared.lib_fault.LibFault.TheVariants as sounds
use Rattle.snd_status.specs.Statuses.{Ending, Success, NoMemory, Refusal, DepotFailure, TextFailure, ending}
use Rattle.snd_status.specs.declared.status.Status.{Status}
use Rattle.snd_status.specs.declared.status.Status.TheVariants.{OutOfMemory, Usage, DepotFault, Absent, TooLong, Script, File}
use Rattle.scene_script.specs.declared.fault.SceneFault.{SceneFault}
use Rattle.scene_script.specs.Script.{scene}

-- 4 MiB
abbrev pub most_script_bytes : ℕ
most_script_bytes = 4194304

-- the first refusal is what it comes to
infixl 10 ◌>>=◌
abbrev pub ◌>>=◌ : {A B : Type 0} → Result A Status → (A → Result B Status) → Result B Status
(Ok x) >>= f = f x
(Err status) >>= f = Err status

-- the scene of a script, or the script's first fault
abbrev pub scene_or_fault : Result SceneData SceneFault → Result SceneData Status
scene_or_fault (Ok s) = Ok s
scene_or_fault (Err fault) = Err (Script fault)

-- how a command ends whose file of that name, of at most so many bytes, isn't given
abbrev pub file_status : List ℕ → ℕ → FetchFault → Status
file_status name limit files.Absent = Absent name
file_status name limit files.TooLong = TooLong name limit
file_status name limit files.Failed = DepotFault
file_status name limit files.OutOfMemory = OutOfMemory

abbrev pub given_or_status : List ℕ → ℕ → Result (List ℕ) FetchFault → Result (List ℕ) Status
given_or_status name limit (Ok bytes) = Ok bytes
given_or_status name limit (Err fault) = Err (file_status name limit fault)

-- a file of that name, which has these bytes if it is there: absent, or longer than the limit, or its bytes
abbrev pub file_read : ℕ → List ℕ → Option (List ℕ) → Result (List ℕ) Status
file_read limit name file = given_or_status name limit (file_fetched limit file)

-- SCENE
abbrev pub script_read : List ℕ → Result SceneData Status
script_read text = scene_or_fault (scene text)

abbrev pub scene_read : List ℕ → Option (List ℕ) → Result SceneData Status
scene_read name file = file_read most_script_bytes name file >>= script_read

-- the sound of a resource of that number
abbrev pub file_or_fault : {A : Type 0} → ℕ → Result A WaveFault → Result A Status
file_or_fault number (Ok x) = Ok x
file_or_fault number (Err fault) = Err (File number fault)

-- what a sound file says of its sound
abbrev pub surveyed : ℕ → List ℕ → Result Wave Status
surveyed number bytes = file_or_fault number (wave bytes)

-- the bytes of a file that is a sound
abbrev pub sound_said : List ℕ → Result (List ℕ) Status
sound_said bytes = do
  w ← surveyed 0 bytes
  Ok bytes

-- FILE
abbrev pub sound_file_read : List ℕ → Option (List ℕ) → Result (List ℕ) Status
sound_file_read name file = file_read most_sound_bytes name file >>= sound_said

-- the name of the sound file of the resource of a number
abbrev pub file_name : List Resource → ℕ → List ℕ
file_name [] number = []
file_name (resource ∷ more) zero = resource.file
file_name (resource ∷ more) (suc number) = file_name more number

-- how a command ends whose sound files aren't fetched
abbrev pub status_of : List Resource → LibFault → Status
status_of resources sounds.DepotFault = DepotFault
status_of resources (sounds.Absent number) = Absent (file_name resources number)
status_of resources (sounds.TooLong number limit) = TooLong (file_name resources number) limit
status_of resources (sounds.File number fault) = File number fault
status_of resources sounds.OutOfMemory = OutOfMemory

abbrev pub fetched_or_status : {A : Type 0} → List Resource → Result A LibFault → Result A Status
fetched_or_status resources (Ok x) = Ok x
fetched_or_status resources (Err fault) = Err (status_of resources fault)

-- the sound files of resources in their order
abbrev pub sounds_read : Files → List Resource → Result (List (List ℕ)) Status
sounds_read files resources = fetched_or_status resources (clips_fetched files resources)

-- a part of the work ended as is said, or the depot failed, or there was no memory
abbrev pub EndsAs : {A : Type 0} → Ending → Status → Result A Status → Type 0
EndsAs Success status said = ⊥
EndsAs NoMemory status said = Unit {0}
EndsAs Refusal status said = said ≡ Err status
EndsAs DepotFailure status said = Unit {0}
EndsAs TextFailure status said = ⊥

abbrev pub Ends : {A : Type 0} → Status → Result A Status → Type 0
Ends status said = EndsAs (ending status) status said

-- a part of the work gave what is said, as `view` sees it, or ended
abbrev pub GivesBy : {A B : Type 0} → (A → B) → Result A Status → Result B Status → Type 0
GivesBy view (Ok x) said = said ≡ Ok (view x)
GivesBy view (Err status) said = Ends status said

-- whether a part of the work ended because the depot failed
abbrev pub is_depot_failure : Ending → Bool
is_depot_failure Success = false
is_depot_failure NoMemory = false
is_depot_failure Refusal = false
is_depot_failure DepotFailure = true
is_depot_failure TextFailure = false

abbrev pub is_depot_fault : Status → Bool
is_depot_fault status = is_depot_failure (ending status)

abbrev pub stopped_by_depot : {A : Type 0} → Result A Status → Bool
stopped_by_depot (Ok x) = false
stopped_by_depot (Err status) = is_depot_fault status

-- whether the work on files can end so: not with success, nor with what the text sink alone causes
abbrev pub ends_work : Ending → Bool
ends_work Success = false
ends_work NoMemory = true
ends_work Refusal = true
ends_work DepotFailure = true
ends_work TextFailure = false

-- nor with what the words alone cause
abbrev pub can_stop_with : Status → Bool
can_stop_with (Usage word) = false
can_stop_with status = ends_work (ending status)

abbrev pub can_stop : {A : Type 0} → Result A Status → Bool
can_stop (Ok x) = true
can_stop (Err status) = can_stop_with status

-- the refusal of a name, or want of memory
abbrev pub IsAbsent : Status → List ℕ → Type 0
IsAbsent (Absent found) name = found ≡ name
IsAbsent OutOfMemory name = Unit {0}
IsAbsent _ name = ⊥

-- the refusal of a file that passes this limit, or want of memory
abbrev pub IsTooLong : Status → List ℕ → ℕ → Type 0
IsTooLong (TooLong found passed) name limit = (found ≡ name) × (passed ≡ limit)
IsTooLong OutOfMemory name limit = Unit {0}
IsTooLong _ name limit = ⊥

-- the status of the fault of sound files, or want of memory for the name in it
abbrev pub IsStatusOf : List Resource → LibFault → Status → Type 0
IsStatusOf resources sounds.DepotFault status = status ≡ DepotFault
IsStatusOf resources (sounds.Absent number) status = IsAbsent status (file_name resources number)
IsStatusOf resources (sounds.TooLong number limit) status = IsTooLong status (file_name resources number) limit
IsStatusOf resources (sounds.File number fault) status = status ≡ File number fault
IsStatusOf resources sounds.OutOfMemory status = status ≡ OutOfMemory
