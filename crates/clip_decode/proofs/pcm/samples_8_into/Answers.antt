use Rattle.std.proofs.Common.{◌+◌, ◌-◌, FitsSigned, arith, rules}
use Rattle.std.specs.Int.{w32}
use Rattle.std.proofs.lemmas.Int.{to_z-of_z}
use Rattle.clip_decode.specs.Pcm.{pcm_value}
use Rattle.clip_decode.proofs.ContainerRuns.{decoded_more}
use Rattle.clip_decode.proofs.pcm.samples_8_into.Goals as goal

pub loop-i-preserved : goal.loop-i-preserved
loop-i-preserved c =
    let fits : FitsSigned w32 c.sample_8.result = search rules in
    rw (to_z-of_z w32 c.sample_8.result fits)
    (decoded_more pcm_value 1 c.args.containers.now c.loop-i.i c.loop-i.i (c.loop-i.i + 1 - c.loop-i.i) c.sample_8.result c.loop-i.out
    c.loop-i.invariant (omega arith) (omega arith) c.sample_8.ensures.exact c.sample_8.ensures.range (omega arith))
