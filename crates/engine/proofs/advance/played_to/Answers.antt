use Rattle.std.proofs.Common.{◌≡◌, false, sym, ◌∙◌, ap, arith, rules}
use Rattle.mix_model.specs.Spans.{played}
use Rattle.mix_model.proofs.Spans.{played_run, played_whole}
use Rattle.engine.proofs.advance.played_to.Goals as goal

pub returns-then-count-left : goal.returns-then-count-left
returns-then-count-left c = sym (played_run c.args.frames c.args.cursor c.args.looped c.args.count (omega (arith, c.requires)))

pub returns-then-not-looped : goal.returns-then-not-looped
returns-then-not-looped c =
    let not_looped : c.args.looped ≡ false = search rules in
    sym (ap (λ b. played c.args.frames b c.args.cursor c.args.count) not_looped ∙ played_whole c.args.frames c.args.cursor c.args.count c.requires (omega arith))
