-- The whole ring is lent and comes back.
use Rattle.std.proofs.Common.{◌≡◌, ◌+◌, ◌*◌, length, vec_len, drop, sym, subst, rules}
use Rattle.std.proofs.lemmas.List.{take_at}
use Rattle.fx_nodes.specs.Samples.{Holds}
use Rattle.fx_nodes.proofs.delay_line.DelayLine.block.Goals as goal

pub returns-clause-value : goal.returns-clause-value
returns-clause-value c f s holds reads =
    let line = c.args.self.now in
    let view : c.as_mut_slice.result.now ≡ line.ring.items = search rules in
    let size : length c.as_mut_slice.result.now ≡ 2 * line.frames = search rules in
    let out = c.run-self.ensures.value f s (rw (size, view) holds) reads in
    let count : length c.run-self.new.ring ≡ vec_len line.ring = search rules in
    let same = take_at c.run-self.new.ring (drop (length c.run-self.new.ring) line.ring.items) (vec_len line.ring) count in
    let so = rw size at out in
    (so.0, subst (λ ring. Holds f (2 * line.frames) line.decay (s + length c.args.samples.now) c.run-self.result ring) (sym same) so.1)
