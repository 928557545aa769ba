use Rattle.std.proofs.Common.{arith, ◌*◌, ◌≤◌}
use Rattle.ima_adpcm.proofs.LayoutLemmas.{block_frames-whole}
use Rattle.ima_adpcm.proofs.block.block_frames.Goals as goal

pub overflow_mul-result : goal.overflow_mul-result
overflow_mul-result c =
    let whole : 4 * c.args.ch ≤ c.args.len = omega arith in
    rw c.from-group_bytes.ensures (omega (arith, c.requires.fits, block_frames-whole c.args.len c.args.ch whole))

pub overflow_add-result : goal.overflow_add-result
overflow_add-result c =
    let whole : 4 * c.args.ch ≤ c.args.len = omega arith in
    rw c.from-group_bytes.ensures (omega (arith, c.requires.fits, block_frames-whole c.args.len c.args.ch whole))
