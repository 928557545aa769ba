-- A walk over the points of a conversion.
use Rattle.std.specs.Prelude.{ℕ, ◌+◌, ◌*◌, ◌<◌, ◌≤◌, ◌≡◌, Option, Some, None, nat_lt, if◌then◌else◌}
use Rattle.rate_fit.specs.Conversion.{Conversion, IsConversion, length_of}
use Rattle.rate_fit.specs.Points.{point_at, place_of}
use Rattle.rate_fit.specs.declared.point.Point.{Point}

-- what is walked, and the number of the frame that comes next
pub record Walk : Type 0 where
  pub fit : Conversion
  pub n : ℕ

-- the point of the frame that comes next, and none at the end
abbrev pub next_point : Walk → Option Point
next_point w = if nat_lt w.n (length_of w.fit) then Some (point_at w.fit.input_rate w.fit.output_rate w.n) else None

-- the walk stands one frame further on, and stays at the end
abbrev pub after : Walk → Walk
after w = if nat_lt w.n (length_of w.fit) then record { fit = w.fit; n = w.n + 1 } else w

-- what a walker keeps: its point lies at n * input_rate parts, and its step is input_rate parts long
pub record IsWalk (fit : Conversion) (output_rate len n : ℕ) (point step : Point) : Type 0 where
  pub conversion : IsConversion fit
  pub rate : output_rate ≡ fit.output_rate
  pub length : len ≡ length_of fit
  pub within : n ≤ len
  pub place : place_of output_rate point ≡ n * fit.input_rate
  pub weighted : point.weight < output_rate
  pub step_place : place_of output_rate step ≡ fit.input_rate
  pub step_weighted : step.weight < output_rate
