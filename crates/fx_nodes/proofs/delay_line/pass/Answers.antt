-- One sample goes through a delay line.
use Rattle.std.proofs.Common.{◌<◌, pos, length, get_or, arith, refl}
use Rattle.std.proofs.lemmas.List.Elements.{All-set}
use Rattle.mix_fixed.specs.Sound.{Is24}
use Rattle.fx_nodes.proofs.Samples.{plain}
use Rattle.fx_nodes.proofs.DelayLemmas.{line_gives, ring_steps}
use Rattle.fx_nodes.proofs.delay_line.pass.Goals as goal

pub returns-clause-ring : goal.returns-clause-ring
returns-clause-ring c =
    rw (plain c.joined-fed.result c.joined-fed.ensures.range)
    (All-set Is24 c.args.ring.now c.args.place c.joined-fed.result c.joined-fed.ensures.range c.requires.ring)

pub returns-clause-value : goal.returns-clause-value
returns-clause-value c f s holds e =
    let m = length c.args.ring.now in
    let ring = c.args.ring.now in
    let back = get_or ring c.args.place (pos 0) in
    let some : 0 < m = omega arith in
    let x = plain c.args.x c.requires.sample in
    let b = plain back (c.requires.ring c.args.place (pos 0) c.requires.inside) in
    let a = plain c.attenuated.result c.attenuated.ensures.range in
    let share = rw b at c.attenuated.ensures.value in
    let fed = rw (x, a, share) at c.joined-fed.ensures.value in (
      rw (plain c.joined.result c.joined.ensures.range)
          (line_gives f m c.args.decay s c.args.place ring c.args.x back c.joined.result some refl (rw (x, b) at c.joined.ensures.value) holds e),
      λ next is. ring_steps f m c.args.decay s c.args.place next ring _ c.args.x back c.joined-fed.result some refl is refl fed
          (rw (plain c.joined-fed.result c.joined-fed.ensures.range) refl) holds e,
    )
