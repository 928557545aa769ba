-- What each status says of the files and of the text that was printed.
use Rattle.std.specs.Prelude.{◌≡◌, ◌⊎◌, ℕ, List, [], ◌∷◌, Some, Result, Ok, Err, string_bytes}
use Rattle.std.specs.Option.{option_map}
use Rattle.std.specs.Global.{Global}
use Rattle.std.specs.Prelude.{String}
use Rattle.snd_io.specs.Answers.{IsPrefix}
use Rattle.snd_io.specs.declared.answers.Put.{Put}
use Rattle.snd_io.specs.declared.answers.Put.TheVariants.{Done as PutDone, Failed as PutFailed, OutOfMemory as PutOutOfMemory}
use Rattle.snd_io.specs.Files.{Files, Told, put_file}
use Rattle.snd_status.specs.Statuses.{Ending, Success, NoMemory, Refusal, DepotFailure, TextFailure, ending}
use Rattle.snd_status.specs.declared.status.Status.{Status}
use Rattle.snd_status.specs.declared.status.Status.TheVariants.{OutOfMemory, DepotFault}
use Rattle.snd_tools.specs.Outcome.{OutputFile, Outcome, IsRefused, MayReport, Report, status_line}

-- the files with each output set, and every other name as before
abbrev pub put_all : List OutputFile → Files → Files
put_all [] files = files
put_all (output ∷ outputs) files = put_all outputs (put_file output.name output.bytes files)

-- the files are as before, or a first part of the outputs is set whole, and the next one may be set to a prefix of its bytes
abbrev pub IsWrittenInPart : List OutputFile → Files → Files → Type 0
IsWrittenInPart [] before after = after ≡ before
IsWrittenInPart (output ∷ outputs) before after =
    (after ≡ before)
    ⊎ (((part : List ℕ) × IsPrefix part output.bytes × (after ≡ put_file output.name part before))
    ⊎ IsWrittenInPart outputs (put_file output.name output.bytes before) after)

-- each output is set; or, where the files are told, the outputs are set in part
abbrev pub IsSetInPart : List OutputFile → Told → Told → Type 0
IsSetInPart outputs old new = (before : Files) → old ≡ Some before → (after : Files) × (new ≡ Some after) × IsWrittenInPart outputs before after

abbrev pub SetsAll : Put → List OutputFile → Told → Told → Type 0
SetsAll PutDone outputs old new = new ≡ option_map (put_all outputs) old
SetsAll PutFailed outputs old new = IsSetInPart outputs old new
SetsAll PutOutOfMemory outputs old new = IsSetInPart outputs old new

-- the files are as before, or, where there is no refusal, the outputs of a report are written in part
abbrev pub IsLeft : Outcome → Files → Files → Type 0
IsLeft outcome before after =
    (after ≡ before) ⊎ ((report : Report) × MayReport outcome report × IsWrittenInPart report.outputs before after)

-- the outcome is this report, and each of its outputs is set
pub record IsWritten (outcome : Outcome) (before after : Files) (report : Report) : Type 0 where
  pub reported : MayReport outcome report
  pub set : after ≡ put_all report.outputs before

-- What the work on the files came to: all was written, and the line is to be told, or it stopped with a status. `depot_rose`
-- says that the depot's count of faults rose in the call.
abbrev pub StopsAs : Ending → Outcome → Files → Files → Type 0 → Status → Type 0
StopsAs Success outcome before after depot_rose status = ⊥
StopsAs NoMemory outcome before after depot_rose status = IsLeft outcome before after
StopsAs Refusal outcome before after depot_rose status = IsRefused outcome status × (after ≡ before)
StopsAs DepotFailure outcome before after depot_rose status = depot_rose × IsLeft outcome before after
StopsAs TextFailure outcome before after depot_rose status = ⊥

abbrev pub Stops : Outcome → Files → Files → Type 0 → Status → Type 0
Stops outcome before after depot_rose status = StopsAs (ending status) outcome before after depot_rose status

abbrev pub Works : Outcome → Files → Files → Type 0 → Result (String Global) Status → Type 0
Works outcome before after depot_rose (Ok text) = (report : Report) × IsWritten outcome before after report × (string_bytes text ≡ report.line)
Works outcome before after depot_rose (Err status) = Stops outcome before after depot_rose status

-- the line was added, or a prefix of it where the sink's count of faults rose
abbrev pub IsPrinted : Type 0 → List ℕ → List ℕ → Type 0
IsPrinted text_rose line added = (added ≡ line) ⊎ (text_rose × IsPrefix added line)

-- where there was no memory, a prefix of one line may have been added: of that of this status, of the refusal, of the depot's
-- fault, or of the report where every output is set whole
abbrev pub MayPrint : Outcome → Files → Files → List ℕ → Type 0 → Type 0
MayPrint outcome before after added depot_rose =
    IsPrefix added (status_line OutOfMemory)
    ⊎ (((refusal : Status) × IsRefused outcome refusal × IsPrefix added (status_line refusal))
    ⊎ ((depot_rose × IsPrefix added (status_line DepotFault))
    ⊎ ((report : Report) × IsWritten outcome before after report × IsPrefix added report.line)))

-- `depot_rose` says that the depot's count of faults rose in the call, `text_rose` that the text sink's did
abbrev pub MeetsAs : Ending → Outcome → Files → Files → List ℕ → Type 0 → Type 0 → Status → Type 0
MeetsAs Success outcome before after added depot_rose text_rose status =
    (report : Report) × IsWritten outcome before after report × (added ≡ report.line)
MeetsAs NoMemory outcome before after added depot_rose text_rose status = IsLeft outcome before after × MayPrint outcome before after added depot_rose
MeetsAs Refusal outcome before after added depot_rose text_rose status =
    IsRefused outcome status × (after ≡ before) × IsPrinted text_rose (status_line status) added
MeetsAs DepotFailure outcome before after added depot_rose text_rose status =
    depot_rose × IsLeft outcome before after × IsPrinted text_rose (status_line status) added
MeetsAs TextFailure outcome before after added depot_rose text_rose status =
    text_rose × ((report : Report) × IsWritten outcome before after report × IsPrefix added report.line)

abbrev pub Meets : Outcome → Files → Files → List ℕ → Type 0 → Type 0 → Status → Type 0
Meets outcome before after added depot_rose text_rose status =
    MeetsAs (ending status) outcome before after added depot_rose text_rose status
