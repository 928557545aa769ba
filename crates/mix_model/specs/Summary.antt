-- The summary of a rendering.
use Rattle.std.specs.Prelude.{ℕ, ◌%◌, ◌^◌, max, ℤ, List, fold, sum, unsigned_abs}
use Rattle.mix_model.specs.declared.summary.Summary.{Summary}

-- the greatest magnitude of samples, and 0 where there are none
abbrev pub peak : List ℤ → ℕ
peak samples = fold (λ greatest x. max greatest (unsigned_abs x)) 0 samples

-- the sum of bytes, modulo 2^32
abbrev pub byte_sum : List ℕ → ℕ
byte_sum bytes = sum bytes % 2 ^ 32

-- the samples of a mix, in 24 bits, and the bytes that they are packed in
abbrev pub summary : List ℤ → List ℕ → Summary
summary samples bytes = record { peak = peak samples; sum = byte_sum bytes }
