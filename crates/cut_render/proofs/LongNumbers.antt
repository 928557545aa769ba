-- The number of a word.
use Rattle.std.proofs.Common.{◌≡◌, ◌<◌, ◌≤◌, ◌^◌, ℕ, nat_lt, nat_le, Bool, true, false, ◌&&◌, if◌then◌else◌, List, [], ◌∷◌, length, Some, None, Result, Ok, Err, refl, ◌∙◌, ap, sym, arith}
use Rattle.std.specs.Char.{is_ascii_digit}
use Rattle.std.specs.Str.{all_ascii_digits}
use Rattle.std.specs.Str.Parse.{digits_value, ParsesUnsigned}
use Rattle.std.specs.Result.{OkIff, result_ok}
use Rattle.std.proofs.lemmas.Str.Parse.{numerals_by_value, tells_all_ascii_digits, parse_digits}
use Rattle.std.proofs.lemmas.Bool.{lt-ltb, le-ltb, ltb-true, ltb-false, leb-true, lt-leb}
use Rattle.plain_data.specs.Numbers.{is_numeral, has_only_digits, number}

same-test : (word : List ℕ) → has_only_digits word ≡ all_ascii_digits word
same-test [] = refl
same-test (c ∷ word) = ap (λ b. is_ascii_digit c && b) (same-test word)

both : (a b : Bool) → a && b ≡ true → (a ≡ true) × (b ≡ true)
both true true is = (refl, refl)
both true false is = cc
both false b is = cc

by-fit : {E : Type 0} (r : Result ℕ E) (size value : ℕ) → 0 < size → OkIff r ((0 < size) × (value < 2 ^ 64)) value
    → result_ok r ≡ if nat_lt value (2 ^ 64) then Some value else None
by-fit (Ok x) size value some known = rw (lt-ltb value (2 ^ 64) known.0.1, known.1) refl
by-fit (Err e) size value some known =
    let large : 2 ^ 64 ≤ value = not-fit (nat_lt value (2 ^ 64)) refl in
    rw (le-ltb value (2 ^ 64) large) refl
  where
    not-fit : (b : Bool) → nat_lt value (2 ^ 64) ≡ b → 2 ^ 64 ≤ value
    not-fit true is = absurd (known (some, ltb-true value (2 ^ 64) is))
    not-fit false is = ltb-false value (2 ^ 64) is

-- a numeral is read to its number, where that fits
parsed : {E : Type 0} (digits : ℕ) (word : List ℕ) (r : Result ℕ E) → is_numeral digits word ≡ true → ParsesUnsigned 64 10 word r
    → result_ok r ≡ if nat_lt (digits_value 10 word) (2 ^ 64) then Some (digits_value 10 word) else None
parsed digits word r numeral reads =
    let sized = both (nat_le 1 (length word) && nat_le (length word) digits) _ numeral in
    let some = both (nat_le 1 (length word)) _ sized.0 in
    let plain = sym (same-test word) ∙ sized.1 in
    by-fit r (length word) (digits_value 10 word) (leb-true 1 (length word) some.0)
    (parse_digits (numerals_by_value _ tells_all_ascii_digits) 64 word r reads plain)

module _ {E : Type 0} (digits limit : ℕ) (word : List ℕ) (numeral : is_numeral digits word ≡ true) (small : limit < 2 ^ 64) where
  -- a number that fits, and is or isn't at most the limit
  pub read-number : (r : Result ℕ E) (value : ℕ) → r ≡ Ok value → ParsesUnsigned 64 10 word r → (if nat_le value limit then Some value else None) ≡ number digits limit word
  read-number r value is reads = rw numeral (by (nat_lt (digits_value 10 word) (2 ^ 64)) (ap result_ok (sym is) ∙ parsed digits word r numeral reads))
    where
      by : (b : Bool) → Some value ≡ (if b then Some (digits_value 10 word) else None)
          → (if nat_le value limit then Some value else None) ≡ (if nat_le (digits_value 10 word) limit then Some (digits_value 10 word) else None)
      by true same = let e : value ≡ digits_value 10 word = cc in ap (λ n. if nat_le n limit then Some n else None) e
      by false same = cc

  pub read-none : (r : Result ℕ E) (error : E) → r ≡ Err error → ParsesUnsigned 64 10 word r → None ≡ number digits limit word
  read-none r error is reads = rw numeral (by (nat_lt (digits_value 10 word) (2 ^ 64)) refl (ap result_ok (sym is) ∙ parsed digits word r numeral reads))
    where
      by : (b : Bool) → nat_lt (digits_value 10 word) (2 ^ 64) ≡ b → None ≡ (if b then Some (digits_value 10 word) else None)
          → None ≡ (if nat_le (digits_value 10 word) limit then Some (digits_value 10 word) else None)
      by true is same = cc
      by false is same =
          let large = ltb-false (digits_value 10 word) (2 ^ 64) is in
          rw (lt-leb (digits_value 10 word) limit (omega (arith, large, small))) refl
