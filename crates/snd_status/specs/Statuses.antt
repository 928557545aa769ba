-- The statuses: how a command can end, and the number with which the program ends.
use Rattle.std.specs.Prelude.{ℕ}
use Rattle.scene_script.specs.declared.script_error.ScriptError.{ScriptError}
use Rattle.scene_script.specs.declared.script_error.ScriptError.TheVariants as scripts
use Rattle.snd_io.specs.declared.answers.PutFault.{PutFault}
use Rattle.snd_io.specs.declared.answers.PutFault.TheVariants as puts
use Rattle.snd_status.specs.declared.status.Status.{Status}
use Rattle.snd_status.specs.declared.status.Status.TheVariants.{Done, OutOfMemory, Usage, DepotFault, Absent, TooLong, Script, File, TextFault}

pub data Ending : Type 0 where
  -- all was done
  Success : Ending
  -- there was no memory
  NoMemory : Ending
  -- the words, the script or a file are refused
  Refusal : Ending
  -- the store of files failed
  DepotFailure : Ending
  -- all was done, but the line couldn't be printed
  TextFailure : Ending

-- Which of these a status is. All that is said of statuses elsewhere goes by it.
abbrev pub ending : Status → Ending
ending Done = Success
ending OutOfMemory = NoMemory
ending (Usage word) = Refusal
ending DepotFault = DepotFailure
ending (Absent name) = Refusal
ending (TooLong name limit) = Refusal
ending (Script fault) = Refusal
ending (File resource fault) = Refusal
ending TextFault = TextFailure

abbrev pub code : Status → ℕ
code Done = 0
code OutOfMemory = 1
code (Usage word) = 2
code DepotFault = 3
code (Absent name) = 4
code (TooLong name limit) = 5
code (Script fault) = 6
code (File resource fault) = 7
code TextFault = 8

-- how a command ends whose file wasn't written
abbrev pub put_status : PutFault → Status
put_status puts.Failed = DepotFault
put_status puts.OutOfMemory = OutOfMemory

-- and one whose script wasn't read
abbrev pub script_status : ScriptError → Status
script_status (scripts.Fault fault) = Script fault
script_status scripts.OutOfMemory = OutOfMemory
