-- Frame by frame along the line.
use Rattle.std.proofs.Common.{◌≡◌, ◌+◌, ◌-◌, ◌*◌, ◌/◌, ◌<◌, ◌≤◌, ℕ, ℤ, ap, refl, sym, arith, rules}
use Rattle.mix_fixed.specs.Sound.{sat24, scale}
use Rattle.fx_nodes.specs.Effects.{fade_gain}
use Rattle.fx_nodes.specs.Samples.{fade_rule, level_rule}
use Rattle.fx_nodes.proofs.FadeGains.{gain_marked}
use Rattle.fx_nodes.proofs.Made.{made_by, then_made}
use Rattle.fx_nodes.proofs.fader.Fader.slope.Goals as goal

pub loop-t-preserved : goal.loop-t-preserved
loop-t-preserved c =
    let fade = c.args.self.now in
    let t = c.loop-t.t in
    let start = c.args.start in
    let inv = c.loop-t.invariant in
    let mark = c.loop-t.mark in
    let rule = fade_rule fade.from fade.to fade.first fade.last start in
    let low : fade.from ≤ start + c.args.begin = c.requires.from (omega arith) in
    let high : start + c.args.end ≤ fade.to = c.requires.to (omega arith) in
    let at = start + t - fade.from in
    let inside : at < fade.to - fade.from = omega (arith, low, high) in
    let next : at + 1 ≡ start + (t + 1) - fade.from = omega (arith, low) in
    let gains = λ (k : ℕ) (front : 2 * t ≤ k) (back : k < 2 * (t + 1)) (x : ℤ).
    let here : k / 2 ≡ t = omega (arith, front, back) in
    let gain : mark.gain ≡ fade_gain fade.from fade.to fade.first fade.last (start + k / 2) =
    rw here (sym (gain_marked fade.from fade.to fade.first fade.last (start + t) at mark (omega (arith, low)) (omega (arith, high)) refl inv.mark)) in
    ap (λ g. sat24 (scale x g)) gain in
    record {
      len = search rules;
      range = c.amplify_frame.ensures.range;
      made = then_made rule (2 * c.args.begin) (2 * t) (2 * (t + 1)) c.args.frames.now c.loop-t.frames c.amplify_frame.new.frames (omega arith) (omega arith) inv.made
          (made_by (level_rule mark.gain) rule (2 * t) (2 * (t + 1)) c.loop-t.frames c.amplify_frame.new.frames gains c.amplify_frame.ensures.made);
      mark = rw next at (c.next-mark.ensures at inside inv.mark);
    }
