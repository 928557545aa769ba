-- Segments as words: two numbers with a plus between them.
use Rattle.std.specs.Prelude.{ℕ, ◌==◌, Bool, nat_lt, if◌then◌else◌, List, length, Option, Some, None}
use Rattle.std.specs.List.{position_or_len, before_first, after_first}
use Rattle.plain_data.specs.Numbers.{number}
use Rattle.cut_render.specs.Segments.{last_place, most_frames}
use Rattle.cut_render.specs.declared.segment.Segment.{Segment}

-- the first thing, and then what is found by it
infixl 10 ◌>>=◌
abbrev pub ◌>>=◌ : {A B : Type 0} → Option A → (A → Option B) → Option B
None >>= found = None
(Some x) >>= found = found x

-- '+' in ASCII
abbrev pub is_plus : ℕ → Bool
is_plus c = c == 43

-- what stands before the first plus of a word, and what stands behind it
unfoldable pub split_at_plus : List ℕ → Option (List ℕ × List ℕ)
split_at_plus word =
    if nat_lt (position_or_len is_plus word) (length word) then Some (before_first is_plus word, after_first is_plus word) else None

-- a number has 1 to 15 digits, leading zeros among them
abbrev pub most_digits : ℕ
most_digits = 15

abbrev pub place_of : List ℕ → Option ℕ
place_of word = number most_digits last_place word

abbrev pub count_of : List ℕ → Option ℕ
count_of word = number most_digits most_frames word

-- PLACE+COUNT
unfoldable pub segment_of_word : List ℕ → Option Segment
segment_of_word word = do
  parts ← split_at_plus word
  place ← place_of parts.0
  count ← count_of parts.1
  Some (record { place = place; count = count })
