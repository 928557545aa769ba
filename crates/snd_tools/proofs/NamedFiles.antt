-- An outcome by the files that are named.
use Rattle.std.proofs.Common.{◌≡◌, ◌∙◌, ℕ, ◌+◌, List, ◌++◌, length, Result, Ok, Err, refl, sym, ap, subst, arith}
use Rattle.std.specs.FinMap.{get}
use Rattle.scene_model.specs.SceneData.{SceneData}
use Rattle.scene_model.specs.declared.resource.Resource.{Resource}
use Rattle.mix_model.specs.Mix.{mix}
use Rattle.snd_io.specs.Files.{Files}
use Rattle.resource_mgr.specs.Answers.{NamesOneOf}
use Rattle.resource_mgr.specs.Fetching.{clips_fetched}
use Rattle.resource_mgr.specs.declared.lib_fault.LibFault.{LibFault}
use Rattle.snd_status.specs.declared.status.Status.{Status}
use Rattle.clip_decode.specs.Limits.{most_sound_bytes}
use Rattle.fx_nodes.specs.declared.effect.Effect.{Effect}
use Rattle.snd_tools.specs.Commands.{Command, Mix, Info, Gen, Fx, Render, View}
use Rattle.snd_tools.specs.Laws.{AgreeFor, AgreeOn, AgreeOnScene, AgreeOnSounds}
use Rattle.snd_tools.specs.Outcome.{command_result, fx_outcome, fx_rendering, mix_outcome, rendered, rendered_to, rendering, only_line, picture_at, survey_line}
use Rattle.snd_tools.specs.Reading.{◌>>=◌, fetched_or_status, file_read, scene_read, sound_file_read, sounds_read}
use Rattle.snd_tools.proofs.NamedClips.{clips-same, clips-refused, clips-named, status-first}

bind-same : {A B : Type 0} (x : Result A Status) (f g : A → Result B Status) → ((y : A) → x ≡ Ok y → f y ≡ g y) → (x >>= f) ≡ (x >>= g)
bind-same (Ok y) f g same = same y refl
bind-same (Err status) f g same = refl

module _ (a b : Files) where
  -- the same sound files give the same sounds
  sounds-same : (resources : List Resource) → AgreeOnSounds a b resources → sounds_read a resources ≡ sounds_read b resources
  sounds-same resources agree = ap (fetched_or_status resources) (clips-same a b 0 0 resources agree)

  -- the first refusal stands, whichever sound files follow
  pub sounds-refused : (first rest : List Resource) (status : Status) → AgreeOnSounds a b first
      → sounds_read a first ≡ Err status → sounds_read b (first ++ rest) ≡ Err status
  sounds-refused first rest status agree is = by (clips_fetched a first) refl is
    where
      by : (x : Result (List (List ℕ)) LibFault) → clips_fetched a first ≡ x → fetched_or_status first x ≡ Err status → sounds_read b (first ++ rest) ≡ Err status
      by (Ok clips) same is = cc
      by (Err fault) same is =
          let all : 0 + length first ≡ length first = omega arith in
          let named = subst (λ count. NamesOneOf count fault) all (clips-named a 0 0 first fault same) in
          ap (fetched_or_status (first ++ rest)) (clips-refused a b 0 0 first rest fault agree same)
          ∙ ap Err (status-first first rest fault named) ∙ is

  rendered-same : (scene : List ℕ) → AgreeOn a b scene → ((s : SceneData) → scene_read scene (get a scene) ≡ Ok s → AgreeOnSounds a b s.resources) → rendered a scene ≡ rendered b scene
  rendered-same scene agree sounds =
      bind-same (scene_read scene (get a scene)) _ _
      (λ s is. ap (λ r. r >>= λ xs. Ok (rendering s (mix s xs))) (sounds-same s.resources (sounds s is)))
      ∙ ap (λ file. scene_read scene file >>= λ s. sounds_read b s.resources >>= λ xs. Ok (rendering s (mix s xs))) agree

  mix_outcome-same : (scene out : List ℕ) → AgreeOnScene a b scene → mix_outcome a scene out ≡ mix_outcome b scene out
  mix_outcome-same scene out agree = ap (λ r. r >>= λ x. Ok (rendered_to out x)) (rendered-same scene agree.0 agree.1)

  pub outcome-same : (command : Command) → AgreeFor a b command → command_result a command ≡ command_result b command
  outcome-same (Mix scene out) agree = mix_outcome-same scene out agree
  outcome-same (Info file) agree = ap (λ content. (file_read most_sound_bytes file content >>= survey_line) >>= λ text. Ok (only_line text)) agree
  outcome-same (Gen number prefix) agree = refl
  outcome-same (Fx file out count effects) agree =
      ap (λ content. (sound_file_read file content >>= λ bytes. Ok (fx_rendering bytes effects count)) >>= λ r. Ok (rendered_to out r)) agree
  outcome-same (Render scene out workers) agree = mix_outcome-same scene out agree
  outcome-same (View scene frame) agree = ap (λ content. (scene_read scene content >>= picture_at frame) >>= λ text. Ok (only_line text)) agree

  -- what SCENE is refused for
  pub scene-refused : (scene out : List ℕ) (status : Status) → AgreeOn a b scene → scene_read scene (get a scene) ≡ Err status → mix_outcome b scene out ≡ Err status
  scene-refused scene out status agree is =
      ap (λ r. (r >>= λ s. sounds_read b s.resources >>= λ xs. Ok (rendering s (mix s xs))) >>= λ x. Ok (rendered_to out x))
      (ap (scene_read scene) (sym agree) ∙ is)

  -- what FILE is refused for
  pub sound-refused : (file out : List ℕ) (count : ℕ) (effects : List Effect) (status : Status) → AgreeOn a b file → sound_file_read file (get a file) ≡ Err status
      → fx_outcome b file out count effects ≡ Err status
  sound-refused file out count effects status agree is =
      ap (λ r. (r >>= λ bytes. Ok (fx_rendering bytes effects count)) >>= λ x. Ok (rendered_to out x)) (ap (sound_file_read file) (sym agree) ∙ is)
