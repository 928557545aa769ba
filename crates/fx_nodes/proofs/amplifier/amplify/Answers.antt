-- Sample by sample.
use Rattle.std.proofs.Common.{◌+◌, ◌<◌, ◌∙◌, pos, length, slice_index_or, arith, rules}
use Rattle.std.proofs.lemmas.List.{length-set}
use Rattle.std.proofs.lemmas.List.Elements.{All-set}
use Rattle.mix_fixed.specs.Sound.{Is24}
use Rattle.fx_nodes.proofs.Made.{one_made, then_made}
use Rattle.fx_nodes.proofs.Samples.{plain}
use Rattle.fx_nodes.proofs.amplifier.amplify.Goals as goal

pub loop-i-preserved : goal.loop-i-preserved
loop-i-preserved c =
    let i = c.loop-i.i in
    let xs = c.loop-i.samples in
    let v = c.amplified.result in
    let inv = c.loop-i.invariant in
    let inside : i < length xs = search rules in
    let x = plain (slice_index_or xs i (pos 0)) (inv.range i (pos 0) inside) in
    rw (plain v c.amplified.ensures.range) (record {
      len = length-set xs i v ∙ inv.len;
      range = All-set Is24 xs i v c.amplified.ensures.range inv.range;
      made = then_made _ c.args.from i (i + 1) c.args.samples.now xs _ (omega arith) (omega arith) inv.made (one_made _ i xs v inside (rw x at c.amplified.ensures.value));
    })
