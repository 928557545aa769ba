-- A word and its first colon, and a numeral and its number.
use Rattle.std.proofs.Common.{◌≡◌, ℕ, suc, ◌+◌, ◌<◌, ◌≤◌, ◌^◌, nat_lt, nat_le, Bool, true, false, ◌&&◌, not, List, [], ◌∷◌, ◌++◌, length, drop, get_or, Option, Some, None, ap₂, refl, subst, arith}
use Rattle.std.specs.Char.{is_ascii_digit}
use Rattle.std.specs.List.{list_all, position_or_len, before_first, after_first}
use Rattle.std.specs.Str.Parse.{digits_value}
use Rattle.std.proofs.lemmas.Bool.{lt-ltb, ltb-true, le-leb}
use Rattle.std.proofs.lemmas.List.{take_at, length-append}
use Rattle.std.proofs.lemmas.List.Sums.{split_at_first, passes_at_first}
use Rattle.fx_nodes.specs.Forms.{IsNumber, colon}
use Rattle.plain_data.specs.Numbers.{has_only_digits, is_numeral}
use Rattle.fx_nodes.specs.Words.{◌>>=◌, is_colon, most_digits, most_number, number, split_at_colon}

pub both : (a b : Bool) → a && b ≡ true → (a ≡ true) × (b ≡ true)
both true true is = (refl, refl)
both true false is = cc
both false b is = cc

-- what is found by a first thing
pub bound : {A B : Type 0} (first : Option A) (found : A → Option B) (y : B) → (first >>= found) ≡ Some y → (x : A) × (first ≡ Some x) × (found x ≡ Some y)
bound None found y is = cc
bound (Some x) found y is = (x, refl, is)

-- two values of options
pub some_same : {A : Type 0} (x y : A) → Some x ≡ Some y → x ≡ y
some_same x y is = cc

pub none_is : {A : Type 0} (x : A) → None ≡ Some x → ⊥
none_is x is = cc

abbrev pub is_other : ℕ → Bool
is_other c = not (is_colon c)

digit_is_other : (c : ℕ) → is_ascii_digit c ≡ true → is_other c ≡ true
digit_is_other c digit = grind arith

pub digits_have_none : (word : List ℕ) → has_only_digits word ≡ true → list_all is_other word ≡ true
digits_have_none [] digits = refl
digits_have_none (c ∷ word) digits =
    let parts = both (is_ascii_digit c) _ digits in
    ap₂ (λ a b. a && b) (digit_is_other c parts.0) (digits_have_none word parts.1)

colon_at : (xs ys : List ℕ) → list_all is_other xs ≡ true → position_or_len is_colon (xs ++ colon ∷ ys) ≡ length xs
colon_at [] ys none = refl
colon_at (x ∷ xs) ys none =
    let parts = both (is_other x) _ none in
    rw parts.0 (omega (arith, colon_at xs ys parts.1))

drop_past : (xs : List ℕ) (c : ℕ) (ys : List ℕ) → drop (length xs + 1) (xs ++ c ∷ ys) ≡ ys
drop_past [] c ys = refl
drop_past (x ∷ xs) c ys = let more : length (x ∷ xs) + 1 ≡ suc (length xs + 1) = omega arith in rw more (drop_past xs c ys)

pub splits : (xs ys : List ℕ) → list_all is_other xs ≡ true → split_at_colon (xs ++ colon ∷ ys) ≡ Some (xs, ys)
unfolding split_at_colon
splits xs ys none =
    let there : length xs < length (xs ++ colon ∷ ys) = omega (arith, length-append xs (colon ∷ ys)) in
    rw (colon_at xs ys none, lt-ltb (length xs) (length (xs ++ colon ∷ ys)) there, take_at xs (colon ∷ ys) (length xs) refl, drop_past xs colon ys) refl

pub unsplit : (word : List ℕ) (parts : List ℕ × List ℕ) → split_at_colon word ≡ Some parts → word ≡ parts.0 ++ colon ∷ parts.1
unfolding split_at_colon
unsplit word parts is = by_test (nat_lt (position_or_len is_colon word) (length word)) refl
  where
    by_test : (b : Bool) → nat_lt (position_or_len is_colon word) (length word) ≡ b → word ≡ parts.0 ++ colon ∷ parts.1
    by_test true test =
        let there = ltb-true (position_or_len is_colon word) (length word) test in
        let here : get_or word (position_or_len is_colon word) 0 ≡ colon = grind (arith, passes_at_first is_colon word 0 there) in
        let are : (before_first is_colon word, after_first is_colon word) ≡ parts = some_same _ _ (rw test at is) in
        subst (λ p. word ≡ p.0 ++ colon ∷ p.1) are (rw here at (split_at_first is_colon word 0 there))
    by_test false test = absurd (none_is _ (rw test at is))

pub number_of : (word : List ℕ) (n : ℕ) → IsNumber word n → n < 2 ^ 32 → number word ≡ Some n
unfolding number
number_of word n is small = let fits : n ≤ most_number = omega (arith, small) in rw (is.numeral, is.value, le-leb n most_number fits) refl

pub number_read : (word : List ℕ) (n : ℕ) → number word ≡ Some n → IsNumber word n
unfolding number
number_read word n is = by_test (is_numeral most_digits word && nat_le (digits_value 10 word) most_number) refl
  where
    by_test : (b : Bool) → is_numeral most_digits word && nat_le (digits_value 10 word) most_number ≡ b → IsNumber word n
    by_test true test = record { numeral = (both (is_numeral most_digits word) _ test).0; value = some_same _ _ (rw test at is) }
    by_test false test = absurd (none_is _ (rw test at is))

pub no_colon : (word : List ℕ) (n : ℕ) → IsNumber word n → list_all is_other word ≡ true
no_colon word n is = digits_have_none word (both (nat_le 1 (length word) && nat_le (length word) most_digits) _ is.numeral).1
