use Rattle.std.proofs.Common.{refl, sym, subst}
use Rattle.snd_status.specs.declared.status.Status.TheVariants.{Usage}
use Rattle.snd_tools.specs.Outcome.{commanded, IsRefused}
use Rattle.snd_tools.proofs.NamedFiles.{scene-refused, sound-refused, sounds-refused}
use Rattle.snd_tools.proofs.laws.the_refusal_is_the_first.Goals as goal

pub returns-clause-words : goal.returns-clause-words
returns-clause-words c = λ program words word files is. subst (λ r. IsRefused (commanded files r) (Usage word)) (sym is) refl

pub returns-clause-scene : goal.returns-clause-scene
returns-clause-scene c = scene-refused

pub returns-clause-sounds : goal.returns-clause-sounds
returns-clause-sounds c = λ a b first rest status agree is. sounds-refused a b first rest status agree is

pub returns-clause-file : goal.returns-clause-file
returns-clause-file c = sound-refused
