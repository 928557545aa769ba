-- The stages of a chain, one for each effect, and what they keep.
use Rattle.std.specs.Prelude.{◌≡◌, ℕ, ◌*◌, ℤ, List, [], ◌∷◌, map, length}
use Rattle.fx_nodes.specs.Effects.{effect_value}
use Rattle.fx_nodes.specs.Samples.{Holds, sample}
use Rattle.fx_nodes.specs.declared.chain.Chain.{Chain}
use Rattle.fx_nodes.specs.declared.effect.Effect.{Effect}
use Rattle.fx_nodes.specs.declared.effect.Effect.TheVariants.{Delay, Pan, Fade, Level}
use Rattle.fx_nodes.specs.declared.stage.Stage.{Stage}
use Rattle.fx_nodes.specs.declared.stage.Stage.TheVariants.{Delaying, Panning, Fading, Amplifying}

-- the effect that a stage gives
abbrev pub effect_of : Stage → Effect
effect_of (Delaying line) = Delay line.frames line.decay
effect_of (Panning panner) = Pan panner.place
effect_of (Fading fader) = Fade fader.from fader.to fader.first fader.last
effect_of (Amplifying amplifier) = Level amplifier.gain

-- A stage has taken these interleaved stereo frames. Only a delay keeps anything of them: a delay of n stereo frames is one
-- of 2 * n samples.
abbrev pub HasTaken : Stage → List ℤ → Type 0
HasTaken (Delaying line) frames = Holds (sample frames) (2 * line.frames) line.decay (length frames) line.place line.ring.items
HasTaken (Panning panner) frames = Unit {0}
HasTaken (Fading fader) frames = Unit {0}
HasTaken (Amplifying amplifier) frames = Unit {0}

-- each of the stages has taken what those before it made of the frames
abbrev pub HaveTaken : List Stage → List ℤ → Type 0
HaveTaken [] frames = Unit {0}
HaveTaken (stage ∷ stages) frames = HasTaken stage frames × HaveTaken stages (effect_value (effect_of stage) frames)

abbrev pub effects_of : List Stage → List Effect
effects_of stages = map effect_of stages

-- the effects of a chain, the frames that it has taken, and what it is to have taken these
abbrev pub effects_in : Chain → List Effect
effects_in chain = effects_of chain.stages.items

abbrev pub frames_taken : Chain → ℕ
frames_taken chain = chain.taken

abbrev pub StandsFor : Chain → List ℤ → Type 0
StandsFor chain frames = (length frames ≡ 2 * chain.taken) × HaveTaken chain.stages.items frames
