-- The frames of a span: those from a frame on before the next edit, and before a node begins or ceases to be active.
use Rattle.std.specs.Prelude.{◌≡◌, ℕ, zero, suc, ◌+◌, ◌<◌, ◌≤◌, [], List, Bool, if◌then◌else◌}
use Rattle.scene_model.specs.declared.edit.EditRow.{EditRow}
use Rattle.scene_model.specs.declared.node_state.NodeState.{NodeState}
use Rattle.scene_model.specs.PlanData.{PlanData}
use Rattle.scene_model.specs.Times.{edits_at}
use Rattle.mix_model.specs.Mix.{next_frame, next_cursor}
use Rattle.mix_model.specs.Pulled.{node, is_active}
use Rattle.mix_model.specs.Signals.{FrameState}

-- where the cursor of node n, which plays so many frames, is some frames after frame t, if no edit falls between
unfoldable pub cursor_on : PlanData → ℕ → ℕ → ℕ → ℕ → ℕ → ℕ
cursor_on p t n frames cursor zero = cursor
cursor_on p t n frames cursor (suc i) = next_cursor p (t + i) n frames (cursor_on p t n frames cursor i)

-- the state so many frames later, if no edit falls between, where each node plays so many frames
abbrev pub state_on : (ℕ → ℕ) → FrameState → ℕ → FrameState
state_on frames m i = record { plan = m.plan; time = m.time + i; clips = m.clips; cursor = λ n. cursor_on m.plan m.time n (frames n) (m.cursor n) i }

-- no edit falls on the frames after frame t, up to `count` frames from it
abbrev pub IsQuiet : List EditRow → ℕ → ℕ → Type 0
IsQuiet rows t count = (i : ℕ) → 0 < i → i < count → edits_at rows (t + i) ≡ []

-- no node begins or ceases to be active on these frames
abbrev pub IsSteady : PlanData → ℕ → ℕ → Type 0
IsSteady p t count = (i n : ℕ) → i < count → is_active (t + i) (node p n) ≡ is_active t (node p n)

-- a time of a node isn't between the two frames, the first of them left out
abbrev pub IsApart : ℕ → ℕ → ℕ → Type 0
IsApart time t until = t < time → until ≤ time

-- neither of its times is
pub record AreApart (n : NodeState) (t until : ℕ) : Type 0 where
  pub from_apart : IsApart n.from t until
  pub until_apart : IsApart n.until t until

-- the place of a sound that is played for so many frames
unfoldable pub played : ℕ → Bool → ℕ → ℕ → ℕ
played frames looped cursor zero = cursor
played frames looped cursor (suc i) = next_frame frames looped (played frames looped cursor i)

-- where a cursor is in a span in which its node is pulled at each frame or at none
abbrev pub cursor_in : Bool → ℕ → Bool → ℕ → ℕ → ℕ
cursor_in is_pulled frames looped cursor i = if is_pulled then played frames looped cursor i else cursor
