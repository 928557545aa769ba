-- How a file that is written in pieces goes on, and where it stops.
use Rattle.std.specs.Prelude.{◌≡◌, ℕ, List, ◌++◌, Option, Some, None, IsSome, refl}
use Rattle.std.proofs.Common.{sym, ◌∙◌, ap, subst}
use Rattle.snd_io.specs.Files.{Told}
use Rattle.snd_io.specs.Answers.{IsPrefix}
use Rattle.snd_io.specs.Runs.{GrowsBy, RunOfAppends}
use Rattle.snd_io.proofs.RunLemmas.{run-then, run-failed, run-out_of_memory}
use Rattle.engine.specs.declared.run_fault.RunFault.{RunFault}
use Rattle.engine.specs.declared.run_fault.RunFault.TheVariants.{DepotFault, OutOfMemory}
use Rattle.engine.specs.RunAnswers.{fault_answer}

-- nothing follows a run that stopped
pub stopped : (fault : RunFault) (name first rest : List ℕ) (a b : Told) (left : Option (List ℕ))
    → RunOfAppends (fault_answer fault) name first a b left → RunOfAppends (fault_answer fault) name (first ++ rest) a b left
stopped DepotFault name first rest a b left run = run-failed name first rest a b left run
stopped OutOfMemory name first rest a b left run = run-out_of_memory name first rest a b left run

-- a piece that wasn't written whole, after those before it
pub stopped_piece : (fault : RunFault) (name first bytes joined whole : List ℕ) (a b c : Told) (left : Option (List ℕ)) → joined ≡ first ++ bytes → IsPrefix joined whole
    → GrowsBy name first a b → RunOfAppends (fault_answer fault) name bytes b c left → RunOfAppends (fault_answer fault) name whole a c left
stopped_piece fault name first bytes joined whole a b c left e (rest, is) so_far run =
    subst (λ (all : List ℕ). RunOfAppends (fault_answer fault) name all a c left) (sym (is ∙ ap (λ xs. xs ++ rest) e))
    (stopped fault name (first ++ bytes) rest a c left (run-then (fault_answer fault) name first bytes a b c left so_far run))

-- a file that was ended before it was whole
pub ended : (fault : RunFault) (name part whole : List ℕ) (a b c : Told) (left : Option (List ℕ)) → IsPrefix part whole → GrowsBy name part a b → c ≡ b → left ≡ None
    → RunOfAppends (fault_answer fault) name whole a c left
ended DepotFault name part whole a b c left prefix grown same closed = ((part, prefix, subst (λ (files : Told). GrowsBy name part a files) (sym same) grown), closed)
ended OutOfMemory name part whole a b c left prefix grown same closed = ((part, prefix, subst (λ (files : Told). GrowsBy name part a files) (sym same) grown), closed)

-- the name that is open stays
pub stays_open : (before after : Option (List ℕ)) → IsSome before → ((name : List ℕ) → before ≡ Some name → after ≡ Some name) → after ≡ before
stays_open None after some same = absurd (cc some)
stays_open (Some name) after some same = same name refl

-- no file is open where a run stopped
pub stopped_closed : (fault : RunFault) (name bytes : List ℕ) (a b : Told) (left : Option (List ℕ)) → RunOfAppends (fault_answer fault) name bytes a b left → left ≡ None
stopped_closed DepotFault name bytes a b left run = run.1
stopped_closed OutOfMemory name bytes a b left run = run.1
