-- The predictor is read from its two bytes, and fits the sixteen bits that it is kept in.
use Rattle.std.proofs.Common.{◌<◌, ◌*◌, ◌+◌, ◌^◌, arith, refl, ◌∙◌, slice_index_or}
use Rattle.std.specs.Int.{w16}
use Rattle.std.proofs.lemmas.Int.{of_z-to_z}
use Rattle.std.proofs.lemmas.Option.{IfSome_then}
use Rattle.ima_adpcm.specs.Blocks.{header}
use Rattle.ima_adpcm.proofs.block.header.Goals as goal

pub returns-clause-some : goal.returns-clause-some
unfolding header
returns-clause-some c =
    let low = slice_index_or c.args.block.now (4 * c.args.c) 0 in
    let high = slice_index_or c.args.block.now (4 * c.args.c + 1) 0 in
    let fits : low + high * 256 < 2 ^ 16 =
    omega (arith, c.type_inv.block (4 * c.args.c), c.type_inv.block (4 * c.args.c + 1)) in
    IfSome_then c.new.result c.new.ensures.some
    (λ s is. is ∙ rw (c.from_le_bytes-predictor.ensures, c.from-place.ensures, of_z-to_z w16 (low + high * 256) fits) refl)
