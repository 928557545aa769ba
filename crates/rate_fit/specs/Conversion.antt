-- A clip of some frames at the rate input_rate, brought to the rate output_rate; rates in frames a second.
use Rattle.std.specs.Prelude.{ℕ, ◌*◌, ◌^◌, ◌<◌, ◌≤◌}
use Rattle.std.specs.Int.{div_ceil}

pub record Conversion : Type 0 where
  pub input_rate : ℕ
  pub output_rate : ℕ
  pub frames : ℕ

abbrev pub highest_rate : ℕ
highest_rate = 768000

abbrev pub most_frames : ℕ
most_frames = 2 ^ 28

pub record IsConversion (c : Conversion) : Type 0 where
  pub some_in : 0 < c.input_rate
  pub most_in : c.input_rate ≤ highest_rate
  pub some_out : 0 < c.output_rate
  pub most_out : c.output_rate ≤ highest_rate
  pub short : c.frames ≤ most_frames

-- a clip of so many frames at input_rate has so many at output_rate: frames * output_rate / input_rate, rounded up
abbrev pub clip_len : ℕ → ℕ → ℕ → ℕ
clip_len frames input_rate output_rate = div_ceil (frames * output_rate) input_rate

abbrev pub length_of : Conversion → ℕ
length_of c = clip_len c.frames c.input_rate c.output_rate
