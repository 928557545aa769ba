use Rattle.std.proofs.Common.{arith}
use Rattle.wave_read.specs.Frames.{frames_held}
use Rattle.wave_read.proofs.ImaBlocks.{whole_fits, held_fits}
use Rattle.wave_read.proofs.frames.frames_held.Goals as goal

pub overflow_mul-result : goal.overflow_mul-result
overflow_mul-result c =
    rw (c.from.ensures, c.frames_per_block.ensures)
    (omega (arith, whole_fits c.args.align c.args.channels c.args.data_len c.requires.some c.requires.header))

pub overflow_add-result : goal.overflow_add-result
unfolding frames_held
overflow_add-result c =
    rw (c.from.ensures, c.frames_per_block.ensures, c.frames_in_short_block.ensures, c.from-2.ensures)
    (omega (arith, held_fits c.args.align c.args.channels c.args.data_len c.requires.some c.requires.header))
