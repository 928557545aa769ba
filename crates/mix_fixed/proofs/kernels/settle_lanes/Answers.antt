use Rattle.std.proofs.Common.{◌≡◌, ◌+◌, refl, add-zero, w64, to_z, of_z, arith}
use Rattle.std.proofs.lemmas.Int.{ints}
use Rattle.mix_fixed.specs.Kernels.{at}
use Rattle.mix_fixed.specs.Sound.{sat24}
use Rattle.mix_fixed.proofs.Settled.{lane, lane_is, settled_stored}
use Rattle.mix_fixed.proofs.kernels.settle_lanes.Goals as goal

pub returns : goal.returns
returns c =
    let from = c.args.from in
    let sums = c.args.acc.now in
    let kept_0 : to_z w64 (of_z w64 (at sums from)) ≡ at sums from = omega (arith, ints) in
    let kept_1 : to_z w64 (of_z w64 (at sums (from + 1))) ≡ at sums (from + 1) = omega (arith, ints) in
    let kept_2 : to_z w64 (of_z w64 (at sums (from + 2))) ≡ at sums (from + 2) = omega (arith, ints) in
    let kept_3 : to_z w64 (of_z w64 (at sums (from + 3))) ≡ at sums (from + 3) = omega (arith, ints) in
    let kept_4 : to_z w64 (of_z w64 (at sums (from + 4))) ≡ at sums (from + 4) = omega (arith, ints) in
    let kept_5 : to_z w64 (of_z w64 (at sums (from + 5))) ≡ at sums (from + 5) = omega (arith, ints) in
    let kept_6 : to_z w64 (of_z w64 (at sums (from + 6))) ≡ at sums (from + 6) = omega (arith, ints) in
    let kept_7 : to_z w64 (of_z w64 (at sums (from + 7))) ≡ at sums (from + 7) = omega (arith, ints) in
    let first : lane (at sums from) ≡ sat24 (at sums (from + 0)) = rw (add-zero from) (lane_is (at sums from) kept_0) in
    settled_stored from sums c.args.out.now _ refl c.requires.samples_there (
      first,
      (
        lane_is (at sums (from + 1)) kept_1,
        (
          lane_is (at sums (from + 2)) kept_2,
          (
            lane_is (at sums (from + 3)) kept_3,
            (
              lane_is (at sums (from + 4)) kept_4,
              (lane_is (at sums (from + 5)) kept_5, (lane_is (at sums (from + 6)) kept_6, (lane_is (at sums (from + 7)) kept_7, tt))),
            ),
          ),
        ),
      ),
    )
