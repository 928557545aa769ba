-- Numbers that words write.
use Rattle.std.specs.Prelude.{ℕ, Bool, ◌&&◌, nat_le, if◌then◌else◌, List, length, Option, Some, None}
use Rattle.std.specs.List.{list_all}
use Rattle.std.specs.Char.{is_ascii_digit}
use Rattle.std.specs.Str.Parse.{digits_value}

abbrev pub has_only_digits : List ℕ → Bool
has_only_digits word = list_all is_ascii_digit word

-- 1 to so many digits, leading zeros among them
abbrev pub is_numeral : ℕ → List ℕ → Bool
is_numeral digits word = nat_le 1 (length word) && nat_le (length word) digits && has_only_digits word

-- the number of such a word, if it is at most the limit
abbrev pub number : ℕ → ℕ → List ℕ → Option ℕ
number digits limit word = if is_numeral digits word && nat_le (digits_value 10 word) limit then Some (digits_value 10 word) else None
