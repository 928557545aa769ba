-- Frames at a scene's rate and in its channels, from the frames of the file between which they lie.
use Rattle.std.specs.Prelude.{◌≡◌, ℕ, ◌≤◌, ℤ, pos, List, slice_index_or}
use Rattle.rate_fit.specs.Blend.{blended}
use Rattle.rate_fit.specs.Channels.{in_channels}
use Rattle.rate_fit.specs.Conversion.{Conversion, IsConversion, length_of}

-- the conversion of a clip's rate to a scene's, and the scene's channels
pub record ConverterData : Type 0 where
  pub conversion : Conversion
  pub channels : ℕ

-- the sample of channel c between two frames of the file, of which the second has the weight w
abbrev pub converted : ConverterData → List ℤ → List ℤ → ℕ → ℕ → ℤ
converted to first second w c =
    blended (slice_index_or (in_channels to.channels first) c (pos 0)) (slice_index_or (in_channels to.channels second) c (pos 0)) w to.conversion.output_rate

-- what a converter keeps
pub record IsConverter (fit : Conversion) (interpolator channels len : ℕ) : Type 0 where
  pub conversion : IsConversion fit
  pub rate : interpolator ≡ fit.output_rate
  pub channels_least : 1 ≤ channels
  pub channels_most : channels ≤ 2
  pub length : len ≡ length_of fit
