-- The two samples of a frame.
use Rattle.std.proofs.Common.{◌≡◌, ◌+◌, ◌*◌, pos, length, set, arith}
use Rattle.std.proofs.lemmas.List.{length-set}
use Rattle.std.proofs.lemmas.List.Elements.{All-set}
use Rattle.mix_fixed.specs.Sound.{Is24}
use Rattle.fx_nodes.specs.Samples.{level_rule, sample}
use Rattle.fx_nodes.proofs.Made.{frame_made}
use Rattle.fx_nodes.proofs.Samples.{plain}
use Rattle.fx_nodes.proofs.fader.amplify_frame.Goals as goal

pub returns-clause-made : goal.returns-clause-made
returns-clause-made c =
    let t = c.args.t in
    let xs = c.args.frames.now in
    let rule = level_rule c.args.gain in
    let v = c.amplified.result in
    let w = c.amplified-2.result in
    let ys = set xs (2 * t) v in
    let len : length ys ≡ length xs = length-set xs (2 * t) v in
    let range = All-set Is24 xs (2 * t) v c.amplified.ensures.range c.requires.samples in
    let x = plain (sample xs (2 * t)) (c.requires.samples (2 * t) (pos 0) (omega arith)) in
    let y = plain (sample ys (2 * t + 1)) (range (2 * t + 1) (pos 0) (omega arith)) in
    let pv = plain v c.amplified.ensures.range in
    rw (pv, plain w c.amplified-2.ensures.range)
    (frame_made rule t xs v w c.requires.there (rw x at c.amplified.ensures.value) (rw (pv, y) at c.amplified-2.ensures.value))

pub returns-clause-range : goal.returns-clause-range
returns-clause-range c =
    let v = c.amplified.result in
    let w = c.amplified-2.result in
    let range = All-set Is24 c.args.frames.now (2 * c.args.t) v c.amplified.ensures.range c.requires.samples in
    rw (plain v c.amplified.ensures.range, plain w c.amplified-2.ensures.range) (All-set Is24 _ (2 * c.args.t + 1) w c.amplified-2.ensures.range range)
