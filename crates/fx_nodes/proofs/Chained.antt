-- A stage, and those behind it.
use Rattle.std.proofs.Common.{◌≡◌, ℕ, ◌+◌, ◌*◌, ◌<◌, ◌++◌, ◌∙◌, ℤ, List, [], ◌∷◌, length, take, drop, get_or, ap, ap₂, refl, subst, sym}
use Rattle.std.proofs.lemmas.List.{map-append, take_at, take_more}
use Rattle.fx_nodes.specs.Effects.{chain_value, effect_value}
use Rattle.fx_nodes.specs.Stages.{HasTaken, HaveTaken, effect_of, effects_of}
use Rattle.fx_nodes.specs.declared.effect.Effect.{Effect}
use Rattle.fx_nodes.specs.declared.stage.Stage.{Stage}
use Rattle.fx_nodes.proofs.Values.{length-effect_value, value_begins}

pub chain_steps : (stage stage' : Stage) (stages stages' : List Stage) (start : ℕ) (taken ys mid zs : List ℤ) → effect_of stage' ≡ effect_of stage
    → ((xs : List ℤ) → length xs ≡ 2 * start → HasTaken stage xs
    → (effect_value (effect_of stage) (xs ++ ys) ≡ effect_value (effect_of stage) xs ++ mid) × HasTaken stage' (xs ++ ys))
    → ((xs : List ℤ) → length xs ≡ 2 * start → HaveTaken stages xs
    → (chain_value (effects_of stages) (xs ++ mid) ≡ chain_value (effects_of stages) xs ++ zs) × HaveTaken stages' (xs ++ mid))
    → length taken ≡ 2 * start → HaveTaken (stage ∷ stages) taken
    → (chain_value (effects_of (stage ∷ stages)) (taken ++ ys) ≡ chain_value (effects_of (stage ∷ stages)) taken ++ zs) × HaveTaken (stage' ∷ stages') (taken ++ ys)
chain_steps stage stage' stages stages' start taken ys mid zs kept first rest even ready =
    let effect = effect_of stage in
    let one = first taken even ready.0 in
    let more = rest (effect_value effect taken) (length-effect_value effect taken ∙ even) ready.1 in
    let there : HaveTaken stages' (effect_value (effect_of stage') (taken ++ ys)) =
    subst (λ e. HaveTaken stages' (effect_value e (taken ++ ys))) (sym kept) (subst (HaveTaken stages') (sym one.0) more.1) in
    (ap (chain_value (effects_of stages)) one.0 ∙ more.0, (one.1, there))

no_value : (e : Effect) → effect_value e [] ≡ []
unfolding effect_value
no_value e = refl

-- one more stage that has taken nothing
pub none_taken_more : (stages : List Stage) (stage : Stage) → HaveTaken stages [] → HasTaken stage [] → HaveTaken (stages ++ stage ∷ []) []
none_taken_more [] stage ready one = (one, tt)
none_taken_more (s ∷ stages) stage ready one =
    let none = no_value (effect_of s) in
    (ready.0, rw none (none_taken_more stages stage (rw none at ready.1) one))

pub effects_more : (stages : List Stage) (stage : Stage) (effects : List Effect) (i : ℕ) (d : Effect) → i < length effects → effects_of stages ≡ take i effects
    → effect_of stage ≡ get_or effects i d → effects_of (stages ++ stage ∷ []) ≡ take (i + 1) effects
effects_more stages stage effects i d inside are is = map-append effect_of stages (stage ∷ []) ∙ ap₂ (λ es e. es ++ e ∷ []) are is ∙ sym (take_more effects i d inside)

pub length-chain_value : (effects : List Effect) (frames : List ℤ) → length (chain_value effects frames) ≡ length frames
length-chain_value [] frames = refl
length-chain_value (e ∷ effects) frames = length-chain_value effects (effect_value e frames) ∙ length-effect_value e frames

-- what effects make of the first frames stays, whichever frames follow
pub chain_begins : (effects : List Effect) (xs ys : List ℤ) → (zs : List ℤ) × (chain_value effects (xs ++ ys) ≡ chain_value effects xs ++ zs)
chain_begins [] xs ys = (ys, refl)
chain_begins (e ∷ effects) xs ys =
    let more = chain_begins effects (effect_value e xs) (drop (length xs) (effect_value e (xs ++ ys))) in
    (more.0, ap (chain_value effects) (value_begins e xs ys) ∙ more.1)

pub first_frames : (effects : List Effect) (xs ys : List ℤ) → take (length xs) (chain_value effects (xs ++ ys)) ≡ chain_value effects xs
first_frames effects xs ys =
    let begins = chain_begins effects xs ys in
    ap (take (length xs)) begins.1 ∙ take_at (chain_value effects xs) begins.0 (length xs) (length-chain_value effects xs)
