-- The codes of a word are the halves of its four bytes, low half first.
use Rattle.std.proofs.Common.{◌≡◌, ℕ, zero, suc, ◌+◌, ◌*◌, ◌/◌, ◌%◌, ◌<◌, arith, refl, List, add-zero}
use Rattle.std.specs.Prelude.{◌==◌, if◌then◌else◌, slice_index}
use Rattle.ima_adpcm.specs.Words.{code_in}
use Rattle.ima_adpcm.specs.Blocks.{code_at}

-- the half of a byte that holds code i
abbrev pub half : ℕ → ℕ → ℕ
half byte i = if i % 2 == 0 then byte % 16 else byte / 16

-- the number that four bytes make, the first one lowest
abbrev pub word_of : (a b c d : ℕ) → ℕ
word_of a b c d = a + b * 256 + c * 65536 + d * 16777216

pub code_in-word : (byte : ℕ → ℕ) (p i : ℕ) → ((k : ℕ) → byte k < 256) → i < 8
    → code_in (word_of (byte p) (byte (p + 1)) (byte (p + 2)) (byte (p + 3))) i ≡ half (byte (p + i / 2)) i
code_in-word byte p zero small lt = rw add-zero (omega (arith, small p, small (p + 1), small (p + 2), small (p + 3)))
code_in-word byte p (suc zero) small lt = rw add-zero (omega (arith, small p, small (p + 1), small (p + 2), small (p + 3)))
code_in-word byte p (suc (suc zero)) small lt = omega (arith, small p, small (p + 1), small (p + 2), small (p + 3))
code_in-word byte p (suc (suc (suc zero))) small lt = omega (arith, small p, small (p + 1), small (p + 2), small (p + 3))
code_in-word byte p (suc (suc (suc (suc zero)))) small lt = omega (arith, small p, small (p + 1), small (p + 2), small (p + 3))
code_in-word byte p (suc (suc (suc (suc (suc zero))))) small lt = omega (arith, small p, small (p + 1), small (p + 2), small (p + 3))
code_in-word byte p (suc (suc (suc (suc (suc (suc zero)))))) small lt = omega (arith, small p, small (p + 1), small (p + 2), small (p + 3))
code_in-word byte p (suc (suc (suc (suc (suc (suc (suc zero))))))) small lt = omega (arith, small p, small (p + 1), small (p + 2), small (p + 3))
code_in-word byte p (suc (suc (suc (suc (suc (suc (suc (suc i)))))))) small lt = absurd (omega arith)

pub code_at-group : (bytes : List ℕ) (ch c g i : ℕ) → i < 8
    → code_at bytes ch c (8 * g + i) ≡ half (slice_index bytes (4 * ch + 4 * ch * g + 4 * c + i / 2)) i
unfolding code_at
code_at-group bytes ch c g i lt =
    let group : (8 * g + i) / 8 ≡ g = omega arith in
    let place : (8 * g + i) % 8 ≡ i = omega arith in
    let even : (8 * g + i) % 2 ≡ i % 2 = omega arith in
    rw (group, place, even) refl
