-- The word's number is that of its four bytes, whose halves are the codes.
use Rattle.std.proofs.Common.{arith, ◌+◌, ◌*◌, ◌∙◌, sym, slice_index_or}
use Rattle.ima_adpcm.proofs.WordLemmas.{code_in-word, code_at-group}
use Rattle.ima_adpcm.proofs.word.word.Goals as goal

pub returns : goal.returns
returns c = λ i lt.
    let place = 4 * c.args.ch + 4 * c.args.ch * c.args.group + 4 * c.args.c in
    rw (c.from_le_bytes.ensures, c.from-group_bytes.ensures, c.from.ensures)
    (code_in-word (λ k. slice_index_or c.args.block.now k 0) place i (λ k. omega (arith, c.type_inv.block k)) lt
    ∙ sym (code_at-group c.args.block.now c.args.ch c.args.c c.args.group i lt))
