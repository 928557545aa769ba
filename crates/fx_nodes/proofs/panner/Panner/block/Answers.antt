-- Frame by frame.
use Rattle.std.proofs.Common.{◌≡◌, ◌+◌, ◌*◌, ◌%◌, ◌<◌, ◌∙◌, pos, length, set, arith, rules}
use Rattle.std.proofs.lemmas.List.{length-set}
use Rattle.std.proofs.lemmas.List.Elements.{All-set}
use Rattle.mix_fixed.specs.Sound.{Is24}
use Rattle.fx_nodes.specs.Samples.{pan_rule, sample}
use Rattle.fx_nodes.proofs.Made.{frame_made, then_made}
use Rattle.fx_nodes.proofs.Samples.{plain}
use Rattle.fx_nodes.proofs.panner.Panner.block.Goals as goal

pub loop-t-preserved : goal.loop-t-preserved
loop-t-preserved c =
    let t = c.loop-t.t in
    let xs = c.loop-t.frames in
    let place = c.args.self.now.place in
    let rule = pan_rule place in
    let v = c.attenuated.result in
    let w = c.attenuated-in-loop-t.result in
    let inv = c.loop-t.invariant in
    let inside : 2 * t + 1 < length xs = search rules in
    let ys = set xs (2 * t) v in
    let len : length ys ≡ length xs = length-set xs (2 * t) v in
    let range = All-set Is24 xs (2 * t) v c.attenuated.ensures.range inv.range in
    let x = plain (sample xs (2 * t)) (inv.range (2 * t) (pos 0) (omega arith)) in
    let y = plain (sample ys (2 * t + 1)) (range (2 * t + 1) (pos 0) (omega arith)) in
    let even : (2 * t) % 2 ≡ 0 = omega arith in
    let odd : (2 * t + 1) % 2 ≡ 1 = omega arith in
    let pv = plain v c.attenuated.ensures.range in
    let left : v ≡ rule (2 * t) (sample xs (2 * t)) = rw even (rw (x, c.left-left.ensures.gain) at c.attenuated.ensures.value) in
    let right : w ≡ rule (2 * t + 1) (sample ys (2 * t + 1)) = rw odd (rw (pv, y, c.right-right.ensures.gain) at c.attenuated-in-loop-t.ensures.value) in
    rw (pv, plain w c.attenuated-in-loop-t.ensures.range) (record {
      len = length-set ys (2 * t + 1) w ∙ len ∙ inv.len;
      range = All-set Is24 ys (2 * t + 1) w c.attenuated-in-loop-t.ensures.range range;
      made = then_made rule 0 (2 * t) (2 * (t + 1)) c.args.frames.now xs _ (omega arith) (omega arith) inv.made (frame_made rule t xs v w inside left right);
    })
