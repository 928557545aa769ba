use Rattle.std.proofs.Common.{◌≡◌, ◌+◌, All, IsTrue, drop, length, map, string_bytes}
use Rattle.fx_nodes.specs.Effects.{is_in_range}
use Rattle.snd_tools.specs.Commands.{effects_from}
use Rattle.snd_tools.proofs.EffectWords.{effects_before}
use Rattle.snd_tools.proofs.effect_words.read_effects.Given as goal

abbrev pub invariant-loop-word : goal.invariant-loop-word
invariant-loop-word l = record {
  read : effects_from 4 (map string_bytes l.words) ≡ effects_before l.effects.items (effects_from (4 + l.word-index) (map string_bytes (drop l.word-index l.words)));
  in_range : All (λ effect. IsTrue (is_in_range effect)) l.effects.items;
  count : length l.effects.items ≡ l.word-index;
}
