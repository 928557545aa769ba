-- One more sample of 24 bits.
use Rattle.std.proofs.Common.{◌≡◌, [], ◌∷◌, ◌++◌, rules, arith, w32, to_z, of_z}
use Rattle.std.proofs.lemmas.Int.{ints}
use Rattle.std.proofs.lemmas.List.Elements.{All-push}
use Rattle.mix_fixed.specs.Sound.{Is24}
use Rattle.fx_nodes_tests.proofs.chains.samples.Goals as goal

pub loop-sample-preserved : goal.loop-sample-preserved
loop-sample-preserved c =
    let sample = c.sat24.result in
    let range = c.sat24.ensures.range in
    let plain : to_z w32 (of_z w32 sample) ≡ sample = omega (arith, ints, range.low, range.high) in
    let pushed : c.push.new.self.items ≡ c.loop-sample.samples.items ++ to_z w32 (of_z w32 sample) ∷ [] = search rules in
    rw (pushed, plain) (All-push Is24 c.loop-sample.samples.items sample c.loop-sample.invariant range)
