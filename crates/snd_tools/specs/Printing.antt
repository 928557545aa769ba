-- What is printed of what the work on files came to.
use Rattle.std.specs.Prelude.{◌≡◌, ◌⊎◌, ℕ, List, Bool, true, false, Result, Ok, Err, String, string_bytes}
use Rattle.std.specs.Global.{Global}
use Rattle.snd_io.specs.Answers.{IsPrefix}
use Rattle.snd_status.specs.Statuses.{Ending, Success, NoMemory, Refusal, DepotFailure, TextFailure, ending}
use Rattle.snd_status.specs.declared.status.Status.{Status}
use Rattle.snd_status.specs.declared.status.Status.TheVariants.{OutOfMemory}
use Rattle.snd_tools.specs.Meets.{IsPrinted}
use Rattle.snd_tools.specs.Outcome.{status_line}
use Rattle.snd_tools.specs.Reading.{ends_work}

abbrev pub is_text_failure : Ending → Bool
is_text_failure Success = false
is_text_failure NoMemory = false
is_text_failure Refusal = false
is_text_failure DepotFailure = false
is_text_failure TextFailure = true

abbrev pub is_text_fault : Status → Bool
is_text_fault status = is_text_failure (ending status)

-- whether a status has a line of its own: all but `Done`, whose line is the report, and the fault of the text sink
abbrev pub has_line : Status → Bool
has_line status = ends_work (ending status)

-- what a command came to has a line
abbrev pub has_outcome_line : {A : Type 0} → Result A Status → Bool
has_outcome_line (Ok x) = true
has_outcome_line (Err status) = has_line status

-- the line of a report that is done: `text_rose` says that the sink's count of faults rose
abbrev pub PrintsDoneAs : Ending → List ℕ → List ℕ → Type 0 → Type 0
PrintsDoneAs Success line added text_rose = added ≡ line
PrintsDoneAs NoMemory line added text_rose = IsPrefix added line
PrintsDoneAs Refusal line added text_rose = ⊥
PrintsDoneAs DepotFailure line added text_rose = ⊥
PrintsDoneAs TextFailure line added text_rose = text_rose × IsPrefix added line

abbrev pub PrintsDone : List ℕ → List ℕ → Type 0 → Status → Type 0
PrintsDone line added text_rose status = PrintsDoneAs (ending status) line added text_rose

-- the line of a status, or there was no memory
abbrev pub PrintsOr : Status → List ℕ → Type 0 → Status → Type 0
PrintsOr status added text_rose answer =
    ((answer ≡ status) × IsPrinted text_rose (status_line status) added)
    ⊎ ((answer ≡ OutOfMemory) × (IsPrefix added (status_line status) ⊎ IsPrefix added (status_line OutOfMemory)))

abbrev pub Prints : Result (String Global) Status → List ℕ → Type 0 → Status → Type 0
Prints (Ok text) added text_rose answer = PrintsDone (string_bytes text) added text_rose answer
Prints (Err status) added text_rose answer = PrintsOr status added text_rose answer

-- What a status alone says of the text that was added, told of the files or not: the line of a refusal or of the depot's fault,
-- or a prefix of it where the sink's count of faults rose. That of a report isn't said, nor what was printed of a line for
-- which there was no memory.
abbrev pub TellsAs : Ending → Status → List ℕ → Type 0 → Type 0
TellsAs Success status added text_rose = Unit {0}
TellsAs NoMemory status added text_rose = Unit {0}
TellsAs Refusal status added text_rose = IsPrinted text_rose (status_line status) added
TellsAs DepotFailure status added text_rose = IsPrinted text_rose (status_line status) added
TellsAs TextFailure status added text_rose = text_rose

abbrev pub Tells : Status → List ℕ → Type 0 → Type 0
Tells status added text_rose = TellsAs (ending status) status added text_rose
