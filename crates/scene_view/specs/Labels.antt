-- Texts and gains as a picture in the DOT language of Graphviz has them.
use Rattle.std.specs.Prelude.{ℕ, ◌+◌, ◌*◌, ◌/◌, ◌%◌, ◌==◌, if◌then◌else◌, List, ◌++◌, codes}
use Rattle.std.specs.Char.{encode_utf8, is_ascii_control}
use Rattle.std.specs.Fmt.{decimal}
use Rattle.std.specs.List.{flat_map}
use Rattle.std.specs.Str.{chars}

-- A character inside a quoted label. A quote and a backslash have a backslash before them, a newline is the label's own line
-- break, and any other control character of ASCII is a question mark.
unfoldable pub drawn : ℕ → List ℕ
drawn c =
    if c == 34 then codes "\\\"" else
    if c == 92 then codes "\\\\" else
    if c == 10 then codes "\\n" else
    if is_ascii_control c then codes "?" else
    encode_utf8 c

-- the bytes of a text inside a quoted label
unfoldable pub label : List ℕ → List ℕ
label text = flat_map drawn (chars text)

-- a gain in ten-thousandths, to the nearest, and half a one up
abbrev pub ten_thousandths : ℕ → ℕ
ten_thousandths gain = (gain * 10000 + 32768) / 65536

abbrev pub four_decimals : ℕ → List ℕ
four_decimals n =
    decimal (n / 10000) ++ codes "." ++ decimal (n / 1000 % 10) ++ decimal (n / 100 % 10) ++ decimal (n / 10 % 10) ++ decimal (n % 10)

-- a gain in 1/65536 as a factor of four decimals
unfoldable pub factor : ℕ → List ℕ
factor gain = four_decimals (ten_thousandths gain)
