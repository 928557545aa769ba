-- The words that write effects, by their form.
use Rattle.std.specs.Prelude.{◌≡◌, ℕ, codes, IsTrue, List, ◌∷◌, ◌++◌}
use Rattle.std.specs.Str.Parse.{digits_value}
use Rattle.plain_data.specs.Numbers.{is_numeral}
use Rattle.fx_nodes.specs.Words.{most_digits}
use Rattle.fx_nodes.specs.declared.effect.Effect.{Effect}
use Rattle.fx_nodes.specs.declared.effect.Effect.TheVariants.{Delay, Pan, Fade, Level}

-- a numeral, and its number
pub record IsNumber (word : List ℕ) (n : ℕ) : Type 0 where
  pub numeral : IsTrue (is_numeral most_digits word)
  pub value : digits_value 10 word ≡ n

abbrev pub colon : ℕ
colon = 58

-- a word is the name of the effect and its numbers, with a colon before each
abbrev pub IsWritten : List ℕ → Effect → Type 0
IsWritten word (Delay frames decay) =
    (a : List ℕ) × (b : List ℕ) × (word ≡ codes "delay" ++ colon ∷ (a ++ colon ∷ b)) × IsNumber a frames × IsNumber b decay
IsWritten word (Pan place) = (a : List ℕ) × (word ≡ codes "pan" ++ colon ∷ a) × IsNumber a place
IsWritten word (Fade from to first last) =
    (a : List ℕ) × (b : List ℕ) × (c : List ℕ) × (d : List ℕ) × (word ≡ codes "fade" ++ colon ∷ (a ++ colon ∷ (b ++ colon ∷ (c ++ colon ∷ d))))
    × IsNumber a from × IsNumber b to × IsNumber c first × IsNumber d last
IsWritten word (Level gain) = (a : List ℕ) × (word ≡ codes "level" ++ colon ∷ a) × IsNumber a gain
