-- A straight line of gains, from a first one at frame 0 to a last one at frame `span`.
use Rattle.std.specs.Prelude.{◌≡◌, ℕ, ◌+◌, ◌-◌, ◌*◌, ◌<◌, ◌≤◌}
use Rattle.mix_fixed.specs.Sound.{largest_gain}
use Rattle.fx_nodes.specs.declared.slope.Mark.{Mark}

-- the gain at a frame, times the span
abbrev pub height : ℕ → ℕ → ℕ → ℕ → ℕ
height first last span at = first * (span - at) + last * at

-- a mark has the gain at the frame, rounded down, and what rounding left, in parts of the span
pub record IsMark (first last span at : ℕ) (mark : Mark) : Type 0 where
  pub place : mark.gain * span + mark.rest ≡ height first last span at
  pub rest : mark.rest < span
  pub most : mark.gain ≤ largest_gain

-- what a mark grows by from frame to frame, and `first` more
pub record IsStep (first last span : ℕ) (step : Mark) : Type 0 where
  pub place : step.gain * span + step.rest ≡ last + first * (span - 1)
  pub rest : step.rest < span
  pub most : step.gain < 4194304
