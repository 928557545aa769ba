-- From what the parts of a command gave to what its status says.
use Rattle.std.proofs.Common.{◌≡◌, ◌⊎◌, ℕ, true, false, List, [], ◌∷◌, Some, Result, Ok, Err, String, Global, string_bytes, refl, ◌∙◌, ap, sym, subst, inl, inr}
use Rattle.std.specs.Option.{option_map}
use Rattle.std.specs.Result.{IsErrAnd}
use Rattle.std.proofs.lemmas.Result.{err_from_is_err_and}
use Rattle.snd_io.specs.declared.answers.PutFault.{PutFault}
use Rattle.snd_io.specs.declared.answers.PutFault.TheVariants as faults
use Rattle.snd_io.specs.Answers.{IsPrefix, put_failed, put_fault_of}
use Rattle.snd_io.specs.Faults.{CountsFaults}
use Rattle.snd_io.specs.Runs.{SetsFile}
use Rattle.snd_io.proofs.PrefixLemmas.{IsPrefix-all}
use Rattle.snd_io.specs.Files.{Files, Told, put_file}
use Rattle.snd_status.specs.Statuses.{Ending, Success, NoMemory, Refusal, DepotFailure, TextFailure, ending, put_status}
use Rattle.snd_status.specs.declared.status.Status.{Status}
use Rattle.snd_status.specs.declared.status.Status.TheVariants.{OutOfMemory, DepotFault}
use Rattle.snd_tools.specs.Counts.{CountsDepot, may_have_failed}
use Rattle.snd_tools.specs.Meets.{put_all, IsWrittenInPart, IsLeft, IsWritten, StopsAs, Stops, Works, IsPrinted, MayPrint, MeetsAs, Meets}
use Rattle.snd_tools.specs.Outcome.{OutputFile, Outcome, Report, comes_to, IsRefused, MayReport, status_line}
use Rattle.snd_tools.specs.Reading.{◌>>=◌, EndsAs, Ends, GivesBy, is_depot_failure, is_depot_fault, ends_work, stopped_by_depot}
use Rattle.snd_tools.specs.Printing.{PrintsDoneAs, PrintsOr, Prints, TellsAs, Tells, has_outcome_line}

-- ---- the statuses of each ending that has one alone

only_depot_fault : (status : Status) → ending status ≡ DepotFailure → DepotFault ≡ status
only_depot_fault DepotFault is = refl
only_depot_fault _ is = cc

only_out_of_memory : (status : Status) → ending status ≡ NoMemory → OutOfMemory ≡ status
only_out_of_memory OutOfMemory is = refl
only_out_of_memory _ is = cc

-- ---- parts of the work, one after the other

-- a part that ended ends what follows it
pub ends-then : {A B : Type 0} (status : Status) (said : Result A Status) (next : A → Result B Status) → Ends status said → Ends status (said >>= next)
ends-then status said next ends = by (ending status) ends
  where
    by : (e : Ending) → EndsAs e status said → EndsAs e status (said >>= next)
    by Success ends = absurd ends
    by NoMemory ends = tt
    by Refusal ends = ap (λ r. r >>= next) ends
    by DepotFailure ends = tt
    by TextFailure ends = absurd ends

-- a part that gave what is said, and the next one by it
pub gives-then : {A B C D : Type 0} (view : C → A) (seen : D → B) (x : C) (answer : Result D Status) (said : Result A Status) (next : A → Result B Status)
    → said ≡ Ok (view x) → GivesBy seen answer (next (view x)) → GivesBy seen answer (said >>= next)
gives-then view seen x answer said next is given = subst (λ r. GivesBy seen answer (r >>= next)) (sym is) given

-- ---- a command that ends before it writes

pub stops : {A : Type 0} (status : Status) (said : Result A Status) (next : A → Result Report Status) (files : Files) (depot_rose : Type 0)
    → Ends status said → (is_depot_fault status ≡ true → depot_rose) → Stops (comes_to (said >>= next)) files files depot_rose status
stops status said next files depot_rose ends cause = by (ending status) ends cause
  where
    by : (e : Ending) → EndsAs e status said → (is_depot_failure e ≡ true → depot_rose) → StopsAs e (comes_to (said >>= next)) files files depot_rose status
    by Success ends cause = absurd ends
    by NoMemory ends cause = inl refl
    by Refusal ends cause = (subst (λ r. IsRefused (comes_to (r >>= next)) status) (sym ends) refl, refl)
    by DepotFailure ends cause = (cause refl, inl refl)
    by TextFailure ends cause = absurd ends

-- a status that is passed on
pub works-passed : (o : Outcome) (before after : Files) (depot_rose : Type 0) (passed : Result (String Global) Status) (status : Status)
    → IsErrAnd passed (λ s. s ≡ status) → Stops o before after depot_rose status → Works o before after depot_rose passed
works-passed o before after depot_rose passed status same stop =
    let p = err_from_is_err_and passed same in
    subst (λ r. Works o before after depot_rose r) (sym (p.1 ∙ ap Err p.2)) stop

-- a file that wasn't written
pub stopped-put : (o : Outcome) (before after : Files) (depot_rose : Type 0) (fault : PutFault) → (put_failed (put_fault_of fault) ≡ true → depot_rose)
    → IsLeft o before after → Stops o before after depot_rose (put_status fault)
stopped-put o before after depot_rose faults.Failed rose left = (rose refl, left)
stopped-put o before after depot_rose faults.OutOfMemory rose left = left

-- ---- a command that writes one file

pub left-by-fault : (fault : PutFault) (name bytes : List ℕ) (old new : Told) → SetsFile (put_fault_of fault) name bytes old new
    → (new ≡ old) ⊎ ((part : List ℕ) × IsPrefix part bytes × (new ≡ option_map (put_file name part) old))
left-by-fault faults.Failed name bytes old new set = set
left-by-fault faults.OutOfMemory name bytes old new set = set

pub left-in_part : (o : Outcome) (report : Report) (output : OutputFile) (before : Files) (old new : Told) → MayReport o report → report.outputs ≡ output ∷ [] → old ≡ Some before
    → (new ≡ old) ⊎ ((part : List ℕ) × IsPrefix part output.bytes × (new ≡ option_map (put_file output.name part) old))
    → (after : Files) × (new ≡ Some after) × IsLeft o before after
left-in_part o report output before old new is only told (inl same) = (before, same ∙ told, inl refl)
left-in_part o report output before old new is only told (inr (part, prefix, set)) = (
  put_file output.name part before,
  set ∙ ap (option_map (put_file output.name part)) told,
  inr (report, is, subst (λ outputs. IsWrittenInPart outputs before (put_file output.name part before)) (sym only) (inr (inl (part, prefix, refl)))),
)

-- ---- from the work on files, and what was printed of it, to the status

written-left : (outputs : List OutputFile) (files : Files) → IsWrittenInPart outputs files (put_all outputs files)
written-left [] files = refl
written-left (output ∷ outputs) files = inr (inr (written-left outputs (put_file output.name output.bytes files)))

module _ (o : Outcome) (before after : Files) (added : List ℕ) (depot_rose text_rose : Type 0) where
  left-written : (report : Report) → IsWritten o before after report → IsLeft o before after
  left-written report w = inr (report, w.reported, rw w.set (written-left report.outputs before))

  prefix-printed : (line : List ℕ) → IsPrinted text_rose line added → IsPrefix added line
  prefix-printed line (inl whole) = subst (λ text. IsPrefix added text) whole (IsPrefix-all added)
  prefix-printed line (inr (fault, part)) = part

  may_print : (e : Ending) (status : Status) → ending status ≡ e → StopsAs e o before after depot_rose status → IsPrefix added (status_line status) → MayPrint o before after added depot_rose
  may_print Success status is stop part = absurd stop
  may_print NoMemory status is stop part = inl (subst (λ s. IsPrefix added (status_line s)) (sym (only_out_of_memory status is)) part)
  may_print Refusal status is stop part = inr (inl (status, stop.0, part))
  may_print DepotFailure status is stop part =
      inr (inr (inl (stop.0, subst (λ s. IsPrefix added (status_line s)) (sym (only_depot_fault status is)) part)))
  may_print TextFailure status is stop part = absurd stop

  printed-as : (e : Ending) (status : Status) → ending status ≡ e → StopsAs e o before after depot_rose status → IsPrinted text_rose (status_line status) added
      → MeetsAs e o before after added depot_rose text_rose status
  printed-as Success status is stop printed = absurd stop
  printed-as NoMemory status is stop printed = (stop, may_print NoMemory status is stop (prefix-printed (status_line status) printed))
  printed-as Refusal status is stop printed = (stop.0, stop.1, printed)
  printed-as DepotFailure status is stop printed = (stop.0, stop.1, printed)
  printed-as TextFailure status is stop printed = absurd stop

  stop-left : (e : Ending) (status : Status) → StopsAs e o before after depot_rose status → IsLeft o before after
  stop-left Success status stop = absurd stop
  stop-left NoMemory status stop = stop
  stop-left Refusal status stop = inl stop.1
  stop-left DepotFailure status stop = stop.1
  stop-left TextFailure status stop = absurd stop

  printed-or : (status answer : Status) → Stops o before after depot_rose status → PrintsOr status added text_rose answer → Meets o before after added depot_rose text_rose answer
  printed-or status answer stop (inl (same, printed)) =
      subst (λ s. Meets o before after added depot_rose text_rose s) (sym same) (printed-as (ending status) status refl stop printed)
  printed-or status answer stop (inr (same, inl part)) =
      subst (λ s. Meets o before after added depot_rose text_rose s) (sym same) (stop-left (ending status) status stop, may_print (ending status) status refl stop part)
  printed-or status answer stop (inr (same, inr part)) =
      subst (λ s. Meets o before after added depot_rose text_rose s) (sym same) (stop-left (ending status) status stop, inl part)

  printed-done : (e : Ending) (text : List ℕ) (report : Report) (answer : Status) → IsWritten o before after report → text ≡ report.line
      → PrintsDoneAs e text added text_rose → MeetsAs e o before after added depot_rose text_rose answer
  printed-done Success text report answer w is printed = (report, w, printed ∙ is)
  printed-done NoMemory text report answer w is printed =
      (left-written report w, inr (inr (inr (report, w, subst (λ line. IsPrefix added line) is printed))))
  printed-done Refusal text report answer w is printed = absurd printed
  printed-done DepotFailure text report answer w is printed = absurd printed
  printed-done TextFailure text report answer w is printed = (printed.0, (report, w, subst (λ line. IsPrefix added line) is printed.1))

  pub meets : (came_to : Result (String Global) Status) (answer : Status) → Works o before after depot_rose came_to → Prints came_to added text_rose answer → Meets o before after added depot_rose text_rose answer
  meets (Ok text) answer (report, w, is) printed = printed-done (ending answer) (string_bytes text) report answer w is printed
  meets (Err status) answer stop printed = printed-or status answer stop printed

-- ---- what follows from what was printed alone

module _ (added : List ℕ) (text_rose : Type 0) where
  tells-status : (e : Ending) (status : Status) → ends_work e ≡ true → IsPrinted text_rose (status_line status) added → TellsAs e status added text_rose
  tells-status Success status has printed = cc
  tells-status NoMemory status has printed = tt
  tells-status Refusal status has printed = printed
  tells-status DepotFailure status has printed = printed
  tells-status TextFailure status has printed = cc

  tells-done : (e : Ending) (line : List ℕ) (status : Status) → PrintsDoneAs e line added text_rose → TellsAs e status added text_rose
  tells-done Success line status printed = tt
  tells-done NoMemory line status printed = tt
  tells-done Refusal line status printed = absurd printed
  tells-done DepotFailure line status printed = absurd printed
  tells-done TextFailure line status printed = printed.0

  pub tells : (came_to : Result (String Global) Status) (answer : Status) → has_outcome_line came_to ≡ true → Prints came_to added text_rose answer → Tells answer added text_rose
  tells (Ok text) answer has printed = tells-done (ending answer) (string_bytes text) answer printed
  tells (Err status) answer has (inl (same, printed)) = subst (λ s. Tells s added text_rose) (sym same) (tells-status (ending status) status has printed)
  tells (Err status) answer has (inr (same, part)) = subst (λ s. Tells s added text_rose) (sym same) tt

  counted-done : (e : Ending) (line : List ℕ) → e ≡ DepotFailure → PrintsDoneAs e line added text_rose → ⊥
  counted-done Success line is printed = cc
  counted-done NoMemory line is printed = cc
  counted-done Refusal line is printed = printed
  counted-done DepotFailure line is printed = printed
  counted-done TextFailure line is printed = cc

  unfailed : (e : Ending) → may_have_failed e ≡ false → is_depot_failure e ≡ false
  unfailed Success is = refl
  unfailed NoMemory is = refl
  unfailed Refusal is = refl
  unfailed DepotFailure is = cc
  unfailed TextFailure is = refl

  -- the count of the depot after the work, and the status that was answered
  pub counted : (before now : ℕ) (came_to : Result (String Global) Status) (answer : Status) → CountsFaults before now (stopped_by_depot came_to)
      → Prints came_to added text_rose answer → CountsDepot before now answer
  counted before now (Ok text) answer counts printed = record {
    later = counts.later;
    stays = λ is. counts.stays refl;
    cause = λ is. absurd (counted-done (ending answer) (string_bytes text) (ap ending is) printed);
  }
  counted before now (Err status) answer counts (inl (same, printed)) = record {
    later = counts.later;
    stays = λ is. counts.stays (unfailed (ending status) (ap (λ s. may_have_failed (ending s)) (sym same) ∙ is));
    cause = λ is. counts.cause (ap is_depot_fault (sym same ∙ is));
  }
  counted before now (Err status) answer counts (inr (same, part)) = record {
    later = counts.later;
    stays = λ is. let not : may_have_failed (ending OutOfMemory) ≡ false = ap (λ s. may_have_failed (ending s)) (sym same) ∙ is in cc;
    cause = λ is. let not : OutOfMemory ≡ DepotFault = sym same ∙ is in cc;
  }
