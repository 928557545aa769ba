use Rattle.std.proofs.Common.{refl, arith}
use Rattle.wave_read.proofs.Steps.{channel_bad, channels_fine}
use Rattle.wave_read.proofs.step_indices.block_fault.Goals as goal

pub returns-then-found-gt-MAX_STEP_INDEX : goal.returns-then-found-gt-MAX_STEP_INDEX
returns-then-found-gt-MAX_STEP_INDEX c =
    channel_bad c.args.bytes.now c.args.wave.now c.args.block c.loop-channel.channel _ (omega arith) c.loop-channel.invariant
    (omega arith) (cc)

pub returns : goal.returns
returns c =
    rw (channels_fine c.args.bytes.now c.args.wave.now c.args.block (λ j h. c.loop-channel.invariant j (omega arith))) refl
