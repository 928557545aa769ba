-- Places between the frames of a clip, in parts of a frame of which output_rate make one.
use Rattle.std.specs.Prelude.{ℕ, ◌+◌, ◌*◌, ◌/◌, ◌%◌}
use Rattle.rate_fit.specs.declared.point.Point.{Point}

-- the place p / output_rate: whole frames, and the parts that are left
abbrev pub divided : ℕ → ℕ → Point
divided p output_rate = record { first = p / output_rate; weight = p % output_rate }

-- frame n at the rate output_rate lies at the place n * input_rate / output_rate of the clip
abbrev pub point_at : ℕ → ℕ → ℕ → Point
point_at input_rate output_rate n = divided (n * input_rate) output_rate

-- the place of a point, in parts
abbrev pub place_of : ℕ → Point → ℕ
place_of output_rate p = p.first * output_rate + p.weight
