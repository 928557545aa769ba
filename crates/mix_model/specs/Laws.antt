-- What the laws of the mix speak of.
use Rattle.std.specs.Prelude.{◌≡◌, ◌≢◌, ◌<◌, ◌≤◌, ℕ, Bool, true, false, ◌&&◌, not, List, All, Some}
use Rattle.scene_model.specs.declared.bus.Bus.{Bus}
use Rattle.scene_model.specs.declared.edit.Edit.{Edit}
use Rattle.scene_model.specs.declared.edit.Edit.TheVariants.{Seek}
use Rattle.scene_model.specs.declared.edit.EditRow.{EditRow}
use Rattle.scene_model.specs.Plans.{is_sound_kind}
use Rattle.scene_model.specs.SceneData.{SceneData}
use Rattle.scene_model.specs.Times.{edits_at, plan}
use Rattle.mix_model.specs.Pulled.{node, pulled}
use Rattle.mix_model.specs.Signals.{FrameState, feeds}

-- the state with these buses in its plan
abbrev pub with_buses : FrameState → List Bus → FrameState
with_buses m buses = record m { plan = record m.plan { buses = buses } }

-- no bus is attached to node n
abbrev pub NoneAttached : List Bus → ℕ → Type 0
NoneAttached buses n = All (λ (b : Bus). b.to ≢ Some n) buses

-- whether what the bus adds to node n hangs on the input of its own node, as it does unless that is a sound
abbrev pub passes_on : FrameState → ℕ → Bus → Bool
passes_on m n b = feeds m n b && not (is_sound_kind (node m.plan b.node).kind)

-- with each node the set has those whose inputs are passed on to it
abbrev pub IsClosed : FrameState → (ℕ → Bool) → Type 0
IsClosed m inside = (n : ℕ) → inside n ≡ true → All (λ (b : Bus). passes_on m n b ≡ true → inside b.node ≡ true) m.plan.buses

-- the scene with these edits
abbrev pub with_edits : SceneData → List EditRow → SceneData
with_edits s rows = record s { edits = rows }

-- no edit of these is a seek of node n
abbrev pub NoneSeeks : ℕ → List Edit → Type 0
NoneSeeks n edits = All (λ (e : Edit). (place : ℕ) → e ≢ Seek n place) edits

-- up to frame t node n wasn't sought, and before it not pulled
pub record IsUntouched (s : SceneData) (n t : ℕ) : Type 0 where
  pub not_sought : (u : ℕ) → u ≤ t → NoneSeeks n (edits_at s.edits u)
  pub not_pulled : (u : ℕ) → u < t → pulled (plan s u) u n ≡ false

-- up to frame t node n wasn't sought, and before it always pulled, looped or not
pub record PlaysOn (s : SceneData) (n t : ℕ) (looped : Bool) : Type 0 where
  pub not_sought : (u : ℕ) → u ≤ t → NoneSeeks n (edits_at s.edits u)
  pub is_pulled : (u : ℕ) → u < t → pulled (plan s u) u n ≡ true
  pub looped_is : (u : ℕ) → u < t → (node (plan s u) n).looped ≡ looped
