use Rattle.std.proofs.Common.{sym, arith, ◌∙◌, ◌<◌}
use Rattle.wave_read.specs.StepIndices.{block_count}
use Rattle.wave_read.proofs.ImaBlocks.{per_block_positive}
use Rattle.wave_read.proofs.Steps.{block_bad, blocks_fine}
use Rattle.wave_read.proofs.step_indices.first_step_fault.Goals as goal

pub div_ceil-blocks-requires : goal.div_ceil-blocks-requires
div_ceil-blocks-requires c = rw c.frames_per_block.ensures (per_block_positive c.args.wave.now.align c.args.wave.now.channels)

pub block_fault-fault-requires : goal.block_fault-fault-requires
unfolding block_count
block_fault-fault-requires c =
    c.requires.headers c.loop-block.block (omega (arith, rw (c.div_ceil-blocks.ensures, c.frames_per_block.ensures) at c.loop-block-test.true))

pub returns-then-is_some : goal.returns-then-is_some
unfolding block_count
returns-then-is_some c =
    let below : c.loop-block.block < block_count c.args.wave.now =
    omega (arith, rw (c.div_ceil-blocks.ensures, c.frames_per_block.ensures) at c.loop-block-test.true) in
    c.block_fault-fault.ensures
    ∙ sym (block_bad c.args.bytes.now c.args.wave.now c.loop-block.block below c.loop-block.invariant cc)

pub returns : goal.returns
unfolding block_count
returns c =
    sym (blocks_fine c.args.bytes.now c.args.wave.now (λ j h. c.loop-block.invariant j
    (omega (arith, rw (c.div_ceil-blocks.ensures, c.frames_per_block.ensures) at c.loop-block-test.false))))
