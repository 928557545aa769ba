-- Each entry of the table fits eight bits, so it is what its bits say.
use Rattle.std.proofs.Common.{◌%◌, pos, to_z, of_z, w8, arith, sym}
use Rattle.std.proofs.lemmas.List.{get_or-map}
use Rattle.ima_adpcm.specs.Quantizer.{index_changes}
use Rattle.ima_adpcm.specs.declared.quantizer.TheConstants.{INDEX_CHANGES}
use Rattle.ima_adpcm.proofs.quantizer.index_change.Goals as goal

pub returns : goal.returns
unfolding index_changes
returns c =
    sym (get_or-map (λ x. to_z w8 (of_z w8 x)) INDEX_CHANGES (c.args.code % 8) (pos 0) (pos 0) (omega arith))
