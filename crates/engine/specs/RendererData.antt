-- A renderer, as contracts see it.
use Rattle.std.specs.Prelude.{◌≡◌, ℕ, ◌+◌, ◌<◌, Bool, true, false, ℤ, List, length, Option, None, Some}
use Rattle.scene_clips.specs.SceneClipData.{SceneClipData}
use Rattle.scene_model.specs.SceneData.{SceneData}
use Rattle.mix_model.specs.Mix.{clips_of}
use Rattle.resource_mgr.specs.Tapes.{files_of}
use Rattle.resource_mgr.specs.declared.tape.Tape.{Tape}
use Rattle.engine.specs.declared.need.Need.{Need}
use Rattle.engine.specs.declared.playback.Playback.{Playback}
use Rattle.engine.specs.Needs.{ReadsPage, WasNotShownOf}
use Rattle.engine.specs.Playing.{IsBefore, IsBlock, IsInBlock}
use Rattle.engine.specs.Span.{node_places}

-- the scene, the tapes of its resources, the number of the next frame, how many frames the next block has, once `step` said it, and
-- whether all its pages are there
pub record RendererData : Type 0 where
  pub scene : SceneData
  pub tapes : List Tape
  pub clock : ℕ
  pub next : Option ℕ
  pub ready : Bool

-- a renderer of a scene before its first frame
abbrev pub at_first_frame : SceneData → List Tape → RendererData
at_first_frame s tapes = record { scene = s; tapes = tapes; clock = 0; next = None; ready = false }

-- the clips that a renderer plays
abbrev pub clips_heard : RendererData → List SceneClipData
clips_heard r = clips_of r.scene (files_of r.tapes)

-- The next block, of so many frames, reads this page of this resource, which its tape wasn't shown
pub record IsNeedOf (r r' : RendererData) (frames : ℕ) (need : Need) : Type 0 where
  pub reads : ReadsPage (clips_heard r) r.scene r.clock (r.clock + frames) need.resource need.page
  pub tape : WasNotShownOf need.resource r.tapes r'.tapes need.page need.shown

-- the playback is in a block of so many frames, whose first edits are made, or at the scene's end
pub record IsAtBlock (p : Playback) (clock frames : ℕ) (ready : Bool) (samples : List ℤ) : Type 0 where
  pub block : 0 < frames → IsBlock p.scene.value clock frames
  pub end : frames ≡ 0 → clock ≡ p.scene.value.length
  pub inside : IsInBlock p clock (clock + frames) samples
  pub whole : ready ≡ true → p.time ≡ clock + frames

-- it is before a block
pub record IsBeforeBlock (p : Playback) (clock : ℕ) (ready : Bool) : Type 0 where
  pub before : IsBefore p
  pub time_is : p.time ≡ clock
  pub not_ready : ready ≡ false

-- before `step` and after it
abbrev pub IsStanding : Playback → ℕ → Option ℕ → Bool → List ℤ → Type 0
IsStanding p clock None ready samples = IsBeforeBlock p clock ready
IsStanding p clock (Some frames) ready samples = IsAtBlock p clock frames ready samples

-- what each renderer keeps
pub record IsRenderer (p : Playback) (clock : ℕ) (next : Option ℕ) (ready : Bool) (samples : List ℤ) : Type 0 where
  pub clips_are : p.clips.items ≡ clips_of p.scene.value (files_of p.tapes.items)
  pub standing : IsStanding p clock next ready samples
  pub room : length samples ≡ node_places
