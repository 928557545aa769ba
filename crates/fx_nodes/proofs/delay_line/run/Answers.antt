-- Samples go through a delay line, one after the other.
use Rattle.std.proofs.Common.{◌≡◌, ◌+◌, ◌<◌, ◌∙◌, ◌+ℤ◌, pos, length, slice_index_or, arith, rules, add_assoc}
use Rattle.std.proofs.lemmas.List.{get_or-set_other, length-set}
use Rattle.std.proofs.lemmas.List.Elements.{All-set}
use Rattle.mix_fixed.specs.Sound.{Is24, sat24}
use Rattle.fx_nodes.specs.Effects.{delayed}
use Rattle.fx_nodes.proofs.Samples.{plain}
use Rattle.fx_nodes.proofs.DelayLemmas.{writes_next}
use Rattle.fx_nodes.proofs.delay_line.run.Goals as goal

pub loop-i-preserved : goal.loop-i-preserved
loop-i-preserved c =
    let i = c.loop-i.i in
    let xs = c.loop-i.samples in
    let v = c.pass.result in
    let inv = c.loop-i.invariant in
    let m = length c.args.ring.now in
    let inside : i < length xs = search rules in
    let ring_len : length c.pass.new.ring ≡ m = search rules in
    rw (plain v c.pass.ensures.range) (record {
      ring_len = ring_len;
      len = length-set xs i v ∙ inv.len;
      inside = rw ring_len at c.next_place-place.ensures.inside;
      ring = c.pass.ensures.ring;
      range = All-set Is24 xs i v c.pass.ensures.range inv.range;
      rest = λ k low. get_or-set_other xs i k v (pos 0) (λ e. absurd (omega (arith, low, e))) ∙ inv.rest k (omega (arith, low));
      value = λ f s h reads.
          let so = inv.value f s h reads in
          let x : slice_index_or xs i (pos 0) ≡ f (s + i) = inv.rest i (omega arith) ∙ reads i (omega (arith, inside, inv.len)) in
          let step = c.pass.ensures.value f (s + i) (rw inv.ring_len so.1) (plain (slice_index_or xs i (pos 0)) (inv.range i (pos 0) inside) ∙ x) in
          let now = rw inv.ring_len at step in (
            writes_next (λ t. sat24 (f t +ℤ delayed f m c.args.decay t)) s i xs v inside now.0 so.0,
            rw (add_assoc s i 1) at (now.1 c.next_place-place.result (rw ring_len at c.next_place-place.ensures.next)),
          );
    })

pub returns-clause-value : goal.returns-clause-value
returns-clause-value c f s h reads =
    let inv = c.loop-i.invariant in
    let so = inv.value f s h reads in
    let end : c.loop-i.i ≡ length c.args.samples.now = omega (arith, c.loop-i-test.false, c.loop-i.auto.i-end) in
    ((λ k below. so.0 k (omega (arith, below, end, inv.len))), rw end at so.1)
