-- The decoder of one channel of IMA ADPCM, and what codes make of it.
use Rattle.std.specs.Prelude.{ℕ, List, [], ◌∷◌, ℤ, pos, ◌+ℤ◌, ◌-ℤ◌, ◌==◌, if◌then◌else◌}
use Rattle.std.specs.Int.{saturate_signed, w16}
use Rattle.ima_adpcm.specs.Quantizer.{step_size, difference, next_index, code_bit}

-- the last sample, and the place in the step table
pub record State : Type 0 where
  pub predictor : ℤ
  pub index : ℕ

-- down where bit 3 of the code is set, and held within 16 signed bits
abbrev pub moved_predictor : ℤ → ℕ → ℕ → ℤ
moved_predictor predictor by code =
    saturate_signed w16 (if code_bit code 3 == 1 then predictor -ℤ pos by else predictor +ℤ pos by)

-- the decoder after one code
unfoldable pub after : State → ℕ → State
after s code = record {
  predictor = moved_predictor s.predictor (difference (step_size s.index) code) code;
  index = next_index s.index code;
}

-- the samples of a run of codes: the predictor that it starts with, and one further predictor for each code
unfoldable pub predictors : State → List ℕ → List ℤ
predictors s [] = s.predictor ∷ []
predictors s (code ∷ codes) = s.predictor ∷ predictors (after s code) codes
