-- The frames before the line, on it and behind it.
use Rattle.std.proofs.Common.{◌≡◌, ◌+◌, ◌-◌, ◌*◌, ◌/◌, ◌<◌, ◌≤◌, ℕ, ℤ, length, min, ap, sym, arith}
use Rattle.mix_fixed.specs.Sound.{sat24, scale}
use Rattle.fx_nodes.specs.Samples.{fade_rule, level_rule}
use Rattle.fx_nodes.proofs.FadeGains.{gain_before, gain_after}
use Rattle.fx_nodes.proofs.Made.{made_by, then_made}
use Rattle.fx_nodes.proofs.fader.Fader.block.Goals as goal

pub returns-clause-made : goal.returns-clause-made
returns-clause-made c =
    let fade = c.args.self.now in
    let start = c.args.start in
    let xs = c.args.frames.now in
    let rule = fade_rule fade.from fade.to fade.first fade.last start in
    let b = c.frames_before-begin.result in
    let e = c.frames_before-end.result in
    let count = length xs / 2 in
    let len : length xs ≡ 2 * count = omega arith in
    let begins : b ≡ min (fade.from - start) count = c.frames_before-begin.ensures in
    let ends : e ≡ min (fade.to - start) count = c.frames_before-end.ensures in
    let front = λ (k : ℕ) (low : 0 ≤ k) (below : k < 2 * b) (x : ℤ).
    ap (λ g. sat24 (scale x g)) (sym (gain_before fade.from fade.to fade.first fade.last (start + k / 2) (omega (arith, begins, below)))) in
    let back = λ (k : ℕ) (low : 2 * e ≤ k) (below : k < 2 * count) (x : ℤ).
    ap (λ g. sat24 (scale x g)) (sym (gain_after fade.from fade.to fade.first fade.last (start + k / 2) fade.order (omega (arith, ends, low, below)))) in
    let one = made_by (level_rule fade.first) rule 0 (2 * b) xs c.amplify.new.samples front c.amplify.ensures.made in
    let two = then_made rule 0 (2 * b) (2 * e) xs c.amplify.new.samples c.slope.new.frames (omega arith) (omega (arith, begins, ends, fade.order)) one c.slope.ensures.made in
    let three = made_by (level_rule fade.last) rule (2 * e) (2 * count) c.slope.new.frames c.amplify-2.new.samples back c.amplify-2.ensures.made in
    rw len (then_made rule 0 (2 * e) (2 * count) xs c.slope.new.frames c.amplify-2.new.samples (omega arith) (omega (arith, ends)) two three)
