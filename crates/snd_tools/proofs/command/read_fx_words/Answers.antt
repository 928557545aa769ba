-- Four words or more.
use Rattle.std.proofs.Common.{refl, sym, subst}
use Rattle.snd_tools.specs.CommandsRead.{GivesCommand}
use Rattle.snd_tools.proofs.EffectWords.{few-effects, many-effects}
use Rattle.snd_tools.proofs.command.read_fx_words.Goals as goal

pub returns-then-effects-le-MAX_EFFECTS-clause-value : goal.returns-then-effects-le-MAX_EFFECTS-clause-value
returns-then-effects-le-MAX_EFFECTS-clause-value c =
    subst (GivesCommand c.read_fx_parts.result) (sym (few-effects c.args.words.now _ c.in-len3-up.len_at_least refl
    c.file-item.result c.out-item.result c.count-item.result c.file-item.is c.out-item.is c.count-item.is c.if-effects-le-MAX_EFFECTS.true)) c.read_fx_parts.ensures.value

pub returns-else-effects-le-MAX_EFFECTS-clause-value : goal.returns-else-effects-le-MAX_EFFECTS-clause-value
returns-else-effects-le-MAX_EFFECTS-clause-value c = many-effects c.args.words.now _ c.in-len3-up.len_at_least refl c.if-effects-le-MAX_EFFECTS.false
