-- A file that is created, gets its bytes at once, and is finished.
use Rattle.std.proofs.Common.{◌≡◌, ◌≢◌, ◌∙◌, ℕ, List, Option, IfSome, Result, refl, sym, ap, subst}
use Rattle.std.specs.Result.{IsErrAnd}
use Rattle.std.proofs.lemmas.Result.{err_from_is_err_and}
use Rattle.plain_data.proofs.Lists.{IfSome-at}
use Rattle.snd_io.specs.declared.answers.Put.{Put}
use Rattle.snd_io.specs.declared.answers.Put.TheVariants.{Done, Failed, OutOfMemory}
use Rattle.snd_io.specs.declared.answers.PutFault.{PutFault}
use Rattle.snd_io.specs.Answers.{Creates, Appends, put_of, put_fault_of}
use Rattle.snd_io.specs.Files.{Told}
use Rattle.snd_io.specs.Runs.{SetsFile}
use Rattle.snd_io.proofs.RunLemmas.{run-append, set-run, set-failed}

-- a fault that is passed on stands for the answer that it was
pub passed-on : {A : Type 0} (passed : Result A PutFault) (fault : PutFault) (answer : Put) → IsErrAnd passed (λ e. e ≡ fault) → put_fault_of fault ≡ answer → put_of passed ≡ answer
passed-on passed fault answer same was =
    let p = err_from_is_err_and passed same in ap put_of p.1 ∙ ap put_fault_of p.2 ∙ was

pub set-appended : (made answer : Put) (name bytes : List ℕ) (before created after : Told) (opened left : Option (List ℕ))
    → Done ≡ made → Creates made name before created opened
    → IfSome opened (λ n. Appends answer n bytes created after left) → SetsFile answer name bytes before after
set-appended made answer name bytes before created after opened left done creates appended =
    let (is, open_is) = subst (λ m. Creates m name before created opened) (sym done) creates in
    set-run answer name bytes before created after left is (run-append answer name bytes created after left (IfSome-at _ opened name open_is appended))

pub set-finished : (answer : Put) (name bytes : List ℕ) (before after last : Told) → answer ≢ OutOfMemory → last ≡ after
    → SetsFile Done name bytes before after → SetsFile answer name bytes before last
set-finished Done name bytes before after last some same set = subst (λ told. SetsFile Done name bytes before told) (sym same) set
set-finished Failed name bytes before after last some same set =
    subst (λ told. SetsFile Failed name bytes before told) (sym same) (set-failed name bytes before after set)
set-finished OutOfMemory name bytes before after last some same set = absurd (some refl)
