use Rattle.std.proofs.Common.{◌*◌, ◌+◌, ◌-◌, FitsSigned, arith, rules}
use Rattle.std.specs.Int.{w32}
use Rattle.std.proofs.lemmas.Int.{to_z-of_z}
use Rattle.clip_decode.specs.Pcm.{pcm_value}
use Rattle.clip_decode.proofs.ContainerRuns.{decoded_more}
use Rattle.clip_decode.proofs.pcm.samples_24_into.Goals as goal

pub loop-i-preserved : goal.loop-i-preserved
loop-i-preserved c =
    let fits : FitsSigned w32 c.sample_24.result = search rules in
    rw (to_z-of_z w32 c.sample_24.result fits)
    (decoded_more pcm_value 3 c.args.containers.now c.loop-i.i (3 * c.loop-i.i) ((3 * c.loop-i.i) + 3 - (3 * c.loop-i.i)) c.sample_24.result c.loop-i.out
    c.loop-i.invariant (omega arith) (omega arith) c.sample_24.ensures.exact c.sample_24.ensures.range (omega arith))
