-- The containers before number i are decoded.
use Rattle.clip_decode.specs.Cells.{ContainersDecoded}
use Rattle.clip_decode.specs.Pcm.{pcm_value}
use Rattle.clip_decode.proofs.pcm.samples_16_into.Given as goal

abbrev pub invariant-loop-i : goal.invariant-loop-i
invariant-loop-i l = ContainersDecoded pcm_value 2 l.containers l.i l.out
