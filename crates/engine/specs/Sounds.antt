-- What a sound puts out over a span.
use Rattle.std.specs.Prelude.{◌≡◌, ℕ, ◌+◌, ◌/◌, ◌%◌, ◌<◌, ◌≤◌, nat_lt, Bool, true, ℤ, List, Some, slice_get, if◌then◌else◌}
use Rattle.mix_fixed.specs.Kernels.{at}
use Rattle.scene_clips.specs.SceneClipData.{SceneClipData}
use Rattle.scene_clips.specs.ClipFrames.{clip_length}
use Rattle.scene_model.specs.declared.node.NodeKind.TheVariants.{Sound}
use Rattle.mix_model.specs.Pulled.{node, pulled}
use Rattle.mix_model.specs.Signals.{sample_at}
use Rattle.mix_model.specs.Spans.{played}
use Rattle.engine.specs.Span.{Span}

-- the samples of a clip that is played from a place on, at so many places of the span
abbrev pub ArePlayed : SceneClipData → Bool → ℕ → ℕ → List ℤ → Type 0
ArePlayed c looped cursor count xs =
    (j : ℕ) → j < count → at xs j ≡ sample_at c (played (clip_length c.bytes c.rate) looped cursor (j / c.channels)) (j % c.channels)

-- a clip of one or two channels, with a cursor in it or at its end
pub record IsPlayedAt (c : SceneClipData) (cursor : ℕ) : Type 0 where
  pub channels_least : 1 ≤ c.channels
  pub channels_most : c.channels ≤ 2
  pub cursor_most : cursor ≤ clip_length c.bytes c.rate

-- the place in a clip some frames after one from which it is played, if it doesn't end before; at its end it stays
abbrev pub place_in : ℕ → ℕ → ℕ → ℕ
place_in frames place i = if nat_lt place frames then place + i else frames

-- a sound that is pulled at the span's first frame, and plays this clip from a place on
pub record PlaysFrom (s : Span) (n : ℕ) (c : SceneClipData) (looped : Bool) (cursor : ℕ) : Type 0 where
  pub resource : ℕ
  pub starts_looped : Bool
  pub kind_is : (node s.first.plan n).kind ≡ Sound resource starts_looped
  pub looped_is : (node s.first.plan n).looped ≡ looped
  pub clip_is : slice_get s.first.clips resource ≡ Some c
  pub channels_are : s.channels ≡ c.channels
  pub frames_are : s.frames n ≡ clip_length c.bytes c.rate
  pub cursor_is : s.first.cursor n ≡ cursor
  pub is_pulled : pulled s.first.plan s.first.time n ≡ true
