-- Effects as words: a name and numbers, with colons between them.
use Rattle.std.specs.Prelude.{ℕ, ◌==◌, Bool, nat_lt, if◌then◌else◌, codes, List, length, Option, Some, None}
use Rattle.std.specs.List.{position_or_len, before_first, after_first}
use Rattle.std.specs.Str.{bytes_eq}
use Rattle.plain_data.specs.Numbers as numbers
use Rattle.fx_nodes.specs.Effects.{is_in_range}
use Rattle.fx_nodes.specs.declared.effect.Effect.{Effect}
use Rattle.fx_nodes.specs.declared.effect.Effect.TheVariants.{Delay, Pan, Fade, Level}

-- the first thing, and then what is found by it
infixl 10 ◌>>=◌
abbrev pub ◌>>=◌ : {A B : Type 0} → Option A → (A → Option B) → Option B
None >>= found = None
(Some x) >>= found = found x

abbrev pub is_colon : ℕ → Bool
is_colon c = c == 58

-- what stands before the first colon of a word, and what stands behind it
unfoldable pub split_at_colon : List ℕ → Option (List ℕ × List ℕ)
split_at_colon word =
    if nat_lt (position_or_len is_colon word) (length word) then Some (before_first is_colon word, after_first is_colon word) else None

-- of a number: 1 to 10 digits, leading zeros among them, and 32 bits
abbrev pub most_digits : ℕ
most_digits = 10

abbrev pub most_number : ℕ
most_number = 4294967295

unfoldable pub number : List ℕ → Option ℕ
number word = numbers.number most_digits most_number word

-- FRAMES:DECAY
unfoldable pub delay_of : List ℕ → Option Effect
delay_of numbers = do
  parts ← split_at_colon numbers
  frames ← number parts.0
  decay ← number parts.1
  Some (Delay frames decay)

-- PLACE
unfoldable pub pan_of : List ℕ → Option Effect
pan_of numbers = do
  place ← number numbers
  Some (Pan place)

-- FROM:TO:FIRST:LAST
unfoldable pub fade_of : List ℕ → Option Effect
fade_of numbers = do
  times ← split_at_colon numbers
  ends ← split_at_colon times.1
  gains ← split_at_colon ends.1
  from ← number times.0
  to ← number ends.0
  first ← number gains.0
  last ← number gains.1
  Some (Fade from to first last)

-- GAIN
unfoldable pub level_of : List ℕ → Option Effect
level_of numbers = do
  gain ← number numbers
  Some (Level gain)

-- the effect of a name, with the numbers behind it
unfoldable pub named : List ℕ → List ℕ → Option Effect
named name numbers =
    if bytes_eq name (codes "delay") then delay_of numbers else
    if bytes_eq name (codes "pan") then pan_of numbers else
    if bytes_eq name (codes "fade") then fade_of numbers else
    if bytes_eq name (codes "level") then level_of numbers else
    None

abbrev pub in_range : Effect → Option Effect
in_range effect = if is_in_range effect then Some effect else None

-- the effect that a word writes, if its numbers are within their limits
unfoldable pub effect_of_word : List ℕ → Option Effect
effect_of_word word = do
  parts ← split_at_colon word
  effect ← named parts.0 parts.1
  in_range effect
