use Rattle.std.proofs.Common.{◌≡◌, Bool, false, ◌∙◌, ap, arith, rules}
use Rattle.mix_model.specs.Spans.{played}
use Rattle.engine.proofs.PlayedParts.{plays_inside, plays_silent, plays_first}
use Rattle.engine.proofs.sounds.part_frames.Goals as goal

pub returns-then-place-frames-clause-plays : goal.returns-then-place-frames-clause-plays
returns-then-place-frames-clause-plays c = plays_inside c.args.frames c.args.place c.args.looped c.min.result (omega (arith, c.if-place-frames.true)) (omega (arith, c.min.ensures))

pub returns-then-looped-clause-plays : goal.returns-then-looped-clause-plays
returns-then-looped-clause-plays c = plays_first c.args.frames c.args.place c.args.looped (omega (arith, c.requires.place, c.if-place-frames.false))

pub returns-else-looped-clause-plays : goal.returns-else-looped-clause-plays
returns-else-looped-clause-plays c = λ i below.
    let not_looped : c.args.looped ≡ false = search rules in
    ap (λ (b : Bool). played c.args.frames b c.args.place i) not_looped ∙ plays_silent c.args.frames c.args.place (omega (arith, c.requires.place, c.if-place-frames.false)) i
