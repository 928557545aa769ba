-- Steps of which each may find a fault, in order: the first fault is the answer.
use Rattle.std.specs.Prelude.{◌≡◌, List, [], ◌∷◌, ◌++◌, Result, Ok, Err}
use Rattle.scene_script.specs.declared.fault.SceneFault.{SceneFault}
use Rattle.scene_script.specs.declared.script_error.ScriptError.{ScriptError}
use Rattle.scene_script.specs.declared.script_error.ScriptError.TheVariants.{Fault, OutOfMemory}

-- one step, and then the next with what it gave
infixl 10 ◌>>=◌
abbrev pub ◌>>=◌ : {A B : Type 0} → Result A SceneFault → (A → Result B SceneFault) → Result B SceneFault
(Ok x) >>= next = next x
(Err f) >>= next = Err f

-- what each element gives, in order, by what those before it gave
abbrev pub each : {A B : Type 0} → (List B → A → Result B SceneFault) → List B → List A → Result (List B) SceneFault
each one before [] = Ok before
each one before (x ∷ xs) = one before x >>= λ y. each one (before ++ y ∷ []) xs

-- a call answered what is said, its value seen in that way, unless memory ran out
abbrev pub GivesAs : {A B : Type 0} → (A → B) → Result A ScriptError → Result B SceneFault → Type 0
GivesAs see (Ok x) said = said ≡ Ok (see x)
GivesAs see (Err (Fault f)) said = said ≡ Err f
GivesAs see (Err OutOfMemory) said = Unit {0}

-- the same of a value that is seen as it is
abbrev pub Gives : {A : Type 0} → Result A ScriptError → Result A SceneFault → Type 0
Gives r said = GivesAs (λ x. x) r said
