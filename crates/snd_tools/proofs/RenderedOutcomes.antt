-- What a command that renders to OUT comes to, from what its parts did.
use Rattle.std.proofs.Common.{◌≡◌, ℕ, List, Result, Ok, String, Global, string_bytes, true, Some, ◌∙◌, ap, refl, sym, subst, inr}
use Rattle.std.specs.Option.{option_map}
use Rattle.std.specs.Result.{IsErrAnd}
use Rattle.snd_io.specs.declared.answers.Put.TheVariants.{Done}
use Rattle.snd_io.specs.declared.answers.PutFault.{PutFault}
use Rattle.snd_io.specs.Answers.{put_failed, put_fault_of}
use Rattle.snd_io.specs.Files.{Files, Told, put_file}
use Rattle.snd_io.specs.Runs.{SetsFile}
use Rattle.snd_io.proofs.PrefixLemmas.{IsPrefix-all}
use Rattle.snd_status.specs.Statuses.{put_status}
use Rattle.snd_status.specs.declared.status.Status.{Status}
use Rattle.snd_status.specs.declared.status.Status.TheVariants.{OutOfMemory}
use Rattle.snd_tools.specs.Meets.{Works}
use Rattle.snd_tools.specs.Outcome.{Outcome, Rendering, comes_to, MayReport, rendered_to}
use Rattle.snd_tools.specs.Reading.{◌>>=◌, Ends, is_depot_fault}
use Rattle.snd_tools.proofs.Outcomes.{stops, stopped-put, works-passed, left-in_part, left-by-fault}

-- what it comes to, by the rendering or the first refusal
abbrev pub outcome_of : Result Rendering Status → List ℕ → Outcome
outcome_of said out = comes_to (said >>= λ r. Ok (rendered_to out r))

-- the files afterwards, and what the work came to
abbrev pub Comes : Result Rendering Status → List ℕ → Files → Told → Type 0 → Result (String Global) Status → Type 0
Comes said out before new rose answer = (after : Files) × (new ≡ Some after) × Works (outcome_of said out) before after rose answer

module _ (said : Result Rendering Status) (out : List ℕ) (before : Files) (old read : Told) (told : old ≡ Some before) (unchanged : read ≡ old) (rose : Type 0) (answer : Result (String Global) Status) where
  -- a script or a sound file was not read
  pub not-read : (status : Status) → Ends status said → (is_depot_fault status ≡ true → rose) → IsErrAnd answer (λ s. s ≡ status)
      → Comes said out before read rose answer
  not-read status ends cause passed = (
    before,
    unchanged ∙ told,
    works-passed (outcome_of said out) before before rose answer status passed
        (stops status said (λ r. Ok (rendered_to out r)) before rose ends cause),
  )

  module _ (r : Rendering) (new : Told) (given : said ≡ Ok r) where
    reported : MayReport (outcome_of said out) (rendered_to out r)
    reported = subst (λ x. MayReport (outcome_of x out) (rendered_to out r)) (sym given) refl

    -- OUT was not written whole
    pub not-written : (fault : PutFault) → SetsFile (put_fault_of fault) out r.file read new → (put_failed (put_fault_of fault) ≡ true → rose)
        → IsErrAnd answer (λ s. s ≡ put_status fault) → Comes said out before new rose answer
    not-written fault set cause passed =
        let left = left-in_part (outcome_of said out) (rendered_to out r) _ before read new reported refl (unchanged ∙ told)
        (left-by-fault fault out r.file read new set) in (
          left.0,
          left.1,
          works-passed (outcome_of said out) before left.0 rose answer (put_status fault) passed
              (stopped-put (outcome_of said out) before left.0 rose fault cause left.2),
        )

    -- there was no memory for the line
    pub no-line : SetsFile Done out r.file read new → IsErrAnd answer (λ s. s ≡ OutOfMemory) → Comes said out before new rose answer
    no-line set passed =
        let left = left-in_part (outcome_of said out) (rendered_to out r) _ before read new reported refl (unchanged ∙ told)
        (inr (r.file, IsPrefix-all r.file, set)) in (
          left.0,
          left.1,
          works-passed (outcome_of said out) before left.0 rose answer OutOfMemory passed left.2,
        )

    -- all is done
    pub all-done : (text : String Global) → SetsFile Done out r.file read new → string_bytes text ≡ r.line → Comes said out before new rose (Ok text)
    all-done text set line = (
      put_file out r.file before,
      set ∙ ap (option_map (put_file out r.file)) (unchanged ∙ told),
      (rendered_to out r, record { reported = reported; set = refl }, line),
    )
