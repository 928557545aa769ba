-- Words that write effects, one after the other.
use Rattle.std.proofs.Common.{◌≡◌, ◌∙◌, ℕ, ◌+◌, ◌-◌, ◌<◌, ◌≤◌, List, [], ◌∷◌, ◌++◌, length, map, take, drop, get_or, Option, Some, None, Result, Ok, Err, String, Global, string_bytes, append_assoc, append-nil, refl, ap, ap₂, sym, arith}
use Rattle.std.proofs.lemmas.Bool.{le-leb, lt-leb}
use Rattle.std.proofs.lemmas.List.{drop_more, length-drop, length-map, take_all}
use Rattle.fx_nodes.specs.Words.{effect_of_word}
use Rattle.fx_nodes.specs.declared.effect.Effect.{Effect}
use Rattle.snd_tools.specs.Commands.{effect_then, effects_from, fx_parts, fx_words}

-- effects, and those of the words behind theirs
abbrev pub effects_before : List Effect → Result (List Effect) ℕ → Result (List Effect) ℕ
effects_before effects (Err place) = Err place
effects_before effects (Ok more) = Ok (effects ++ more)

one-more : (effects : List Effect) (effect : Effect) (place : ℕ) (more : Result (List Effect) ℕ)
    → effects_before effects (effect_then place (Some effect) more) ≡ effects_before (effects ++ effect ∷ []) more
one-more effects effect place (Err later) = refl
one-more effects effect place (Ok more) = ap Ok (sym (append_assoc effects (effect ∷ []) more))

pub no-words : (words : Result (List Effect) ℕ) → words ≡ effects_before [] words
no-words (Err place) = refl
no-words (Ok effects) = refl

-- the words from one of them on
module _ (words : List (String Global)) (i : ℕ) (d : String Global) (inside : i < length words) where
  here : effects_from (4 + i) (map string_bytes (drop i words))
      ≡ effect_then (4 + i) (effect_of_word (string_bytes (get_or words i d))) (effects_from (4 + i + 1) (map string_bytes (drop (i + 1) words)))
  here = ap (λ (ws : List (String Global)). effects_from (4 + i) (map string_bytes ws)) (drop_more words i d inside)

  -- a word that writes an effect
  pub word-read : (all : Result (List Effect) ℕ) (effects : List Effect) (effect : Effect) → effect_of_word (string_bytes (get_or words i d)) ≡ Some effect
      → all ≡ effects_before effects (effects_from (4 + i) (map string_bytes (drop i words)))
      → all ≡ effects_before (effects ++ effect ∷ []) (effects_from (4 + (i + 1)) (map string_bytes (drop (i + 1) words)))
  word-read all effects effect is so_far =
      let place : 4 + i + 1 ≡ 4 + (i + 1) = omega arith in
      so_far ∙ ap (effects_before effects) (here ∙ ap (λ o. effect_then (4 + i) o (effects_from (4 + i + 1) (map string_bytes (drop (i + 1) words)))) is)
      ∙ one-more effects effect (4 + i) (effects_from (4 + i + 1) (map string_bytes (drop (i + 1) words)))
      ∙ ap (λ n. effects_before (effects ++ effect ∷ []) (effects_from n (map string_bytes (drop (i + 1) words)))) place

  -- one that writes none
  pub word-refused : (all : Result (List Effect) ℕ) (effects : List Effect) → effect_of_word (string_bytes (get_or words i d)) ≡ None
      → all ≡ effects_before effects (effects_from (4 + i) (map string_bytes (drop i words))) → all ≡ Err (4 + i)
  word-refused all effects is so_far =
      so_far ∙ ap (effects_before effects) (here ∙ ap (λ o. effect_then (4 + i) o (effects_from (4 + i + 1) (map string_bytes (drop (i + 1) words)))) is)

-- all words write effects
pub words-read : (words : List (String Global)) (i : ℕ) (all : Result (List Effect) ℕ) (effects : List Effect) → drop i words ≡ []
    → all ≡ effects_before effects (effects_from (4 + i) (map string_bytes (drop i words))) → all ≡ Ok effects
words-read words i all effects end so_far =
    so_far ∙ ap (λ (ws : List (String Global)). effects_before effects (effects_from (4 + i) (map string_bytes ws))) end ∙ ap Ok (append-nil effects)

-- ---- the words after `fx`

-- four or more of them, where the fourth and those behind it are to write effects
module _ (words : List (String Global)) (effects : List (String Global)) (many : 4 ≤ length words) (are : effects ≡ take (length words - 3) (drop 3 words)) where
  behind-three : effects ≡ drop 3 words
  behind-three = are ∙ take_all (length words - 3) (drop 3 words) (omega (arith, length-drop 3 words))

  -- at most as many as a chain has
  pub few-effects : (file out count : String Global) → file ≡ get_or words 0 file → out ≡ get_or words 1 out → count ≡ get_or words 2 count → length effects ≤ 16
      → fx_words (map string_bytes words) ≡ fx_parts (string_bytes file) (string_bytes out) (string_bytes count) (map string_bytes effects)
  few-effects file out count first second third few = by words many behind-three first second third
    where
      by : (ws : List (String Global)) → 4 ≤ length ws → effects ≡ drop 3 ws → file ≡ get_or ws 0 file → out ≡ get_or ws 1 out → count ≡ get_or ws 2 count
          → fx_words (map string_bytes ws) ≡ fx_parts (string_bytes file) (string_bytes out) (string_bytes count) (map string_bytes effects)
      by [] many is first second third = absurd (omega (arith, many))
      by (a ∷ []) many is first second third = absurd (omega (arith, many))
      by (a ∷ b ∷ []) many is first second third = absurd (omega (arith, many))
      by (a ∷ b ∷ c ∷ []) many is first second third = absurd (omega (arith, many))
      by (a ∷ b ∷ c ∷ e ∷ more) many is first second third =
          let fits : length (map string_bytes (e ∷ more)) ≤ 16 = omega (arith, few, ap length is, length-map (e ∷ more) string_bytes) in
          rw (is, first, second, third, le-leb (length (map string_bytes (e ∷ more))) 16 fits) refl

  -- more
  pub many-effects : 16 < length effects → fx_words (map string_bytes words) ≡ Err 20
  many-effects past = by words many behind-three
    where
      by : (ws : List (String Global)) → 4 ≤ length ws → effects ≡ drop 3 ws → fx_words (map string_bytes ws) ≡ Err 20
      by [] many is = absurd (omega (arith, many))
      by (a ∷ []) many is = absurd (omega (arith, many))
      by (a ∷ b ∷ []) many is = absurd (omega (arith, many))
      by (a ∷ b ∷ c ∷ []) many is = absurd (omega (arith, many))
      by (a ∷ b ∷ c ∷ e ∷ more) many is =
          let none : 16 < length (map string_bytes (e ∷ more)) = omega (arith, past, ap length is, length-map (e ∷ more) string_bytes) in
          rw (lt-leb (length (map string_bytes (e ∷ more))) 16 none) refl
