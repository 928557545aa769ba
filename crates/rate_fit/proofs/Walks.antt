-- What a walker keeps gives the point of the frame at which it stands.
use Rattle.std.proofs.Common.{ℕ, ◌<◌, ◌≡◌, ◌*◌, arith, ap, Some}
use Rattle.std.proofs.lemmas.Bool.{lt-ltb}
use Rattle.rate_fit.proofs.Places.{divided_is, first_inside}
use Rattle.rate_fit.specs.Conversion.{Conversion, length_of}
use Rattle.rate_fit.specs.Points.{divided}
use Rattle.rate_fit.specs.Walk.{IsWalk, next_point}
use Rattle.rate_fit.specs.declared.point.Point.{Point}

before_end : (fit : Conversion) (output_rate len n : ℕ) (point step : Point) → IsWalk fit output_rate len n point step → (n ≡ len → ⊥) → n < length_of fit
before_end fit output_rate len n point step is not_end = omega (arith, is.length, is.within, not_end)

point_is : (fit : Conversion) (output_rate len n : ℕ) (point step : Point) → IsWalk fit output_rate len n point step → point ≡ divided (n * fit.input_rate) fit.output_rate
point_is fit output_rate len n point step is =
    rw (← is.rate) (divided_is point (n * fit.input_rate) output_rate is.place is.weighted)

pub walk_point : (fit : Conversion) (output_rate len n : ℕ) (point step : Point) → IsWalk fit output_rate len n point step → (n ≡ len → ⊥) → Some point ≡ next_point (record { fit = fit; n = n })
walk_point fit output_rate len n point step is not_end =
    rw (lt-ltb n (length_of fit) (before_end fit output_rate len n point step is not_end)) (
    ap Some (point_is fit output_rate len n point step is)
    )

pub walk_inside : (fit : Conversion) (output_rate len n : ℕ) (point step : Point) → IsWalk fit output_rate len n point step → (n ≡ len → ⊥) → point.first < fit.frames
walk_inside fit output_rate len n point step is not_end =
    rw (ap (λ p. p.first) (point_is fit output_rate len n point step is)) (
    first_inside fit n is.conversion (before_end fit output_rate len n point step is not_end)
    )
