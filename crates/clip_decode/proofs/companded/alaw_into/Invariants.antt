-- The codes before number i are decoded.
use Rattle.clip_decode.specs.Cells.{ContainersDecoded}
use Rattle.clip_decode.specs.G711.{alaw_value}
use Rattle.clip_decode.proofs.companded.alaw_into.Given as goal

abbrev pub invariant-loop-i : goal.invariant-loop-i
invariant-loop-i l = ContainersDecoded alaw_value 1 l.codes l.i l.out
