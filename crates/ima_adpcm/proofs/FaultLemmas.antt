-- The first number of a range that passes a test, and what a block's headers answer.
use Rattle.std.proofs.Common.{◌≡◌, ℕ, zero, suc, ◌+◌, ◌<◌, ◌≤◌, arith, Bool, true, false, refl, ap, ◌∙◌, sym, cond, inl, inr, Option, Some, None, Ok, Err, List, length, ◌*◌}
use Rattle.std.specs.Option.{option_map_or}
use Rattle.std.proofs.lemmas.Bool.{le-ltb, lt-ltb}
use Rattle.ima_adpcm.specs.declared.fault.ImaFault.{ImaFault}
use Rattle.ima_adpcm.specs.Blocks.{block_frames}
use Rattle.ima_adpcm.specs.Faults.{first_fault, block_answer}
use Rattle.std.specs.List.{range_with_len, find}
use Rattle.std.proofs.Math.Nat.{eq-or-lt_of_le}

pub find-none : (p : ℕ → Bool) (from n : ℕ) → ((d : ℕ) → from ≤ d → d < from + n → p d ≡ false)
    → find p (range_with_len from n) ≡ None
find-none p from zero fails = refl
find-none p from (suc n) fails =
    ap (λ b. cond b (Some from) (find p (range_with_len (from + 1) n))) (fails from (omega arith) (omega arith))
    ∙ find-none p (from + 1) n (λ d low high. fails d (omega arith) (omega arith))

pub find-first : (p : ℕ → Bool) (from n c : ℕ) → from ≤ c → c < from + n
    → ((d : ℕ) → from ≤ d → d < c → p d ≡ false) → p c ≡ true
    → find p (range_with_len from n) ≡ Some c
find-first p from zero c low high fails passes = absurd (omega arith)
find-first p from (suc n) c low high fails passes =
    elim (eq-or-lt_of_le low) [
      | inl e ↦
          ap (λ b. cond b (Some from) (find p (range_with_len (from + 1) n))) (ap p e ∙ passes) ∙ ap Some e
      | inr lt ↦
          ap (λ b. cond b (Some from) (find p (range_with_len (from + 1) n))) (fails from (omega arith) lt)
          ∙ find-first p (from + 1) n c (omega arith) (omega arith) (λ d l h. fails d (omega arith) h) passes
    ]

pub answer-short : (bytes : List ℕ) (ch : ℕ) → length bytes < 4 * ch → block_answer bytes ch ≡ Ok 0
unfolding block_answer
answer-short bytes ch short =
    ap (λ b. cond b (Ok 0) (option_map_or (λ fault. Err fault) (first_fault bytes ch) (Ok (block_frames (length bytes) ch))))
    (lt-ltb (length bytes) (4 * ch) short)

pub answer-whole : (bytes : List ℕ) (ch : ℕ) (fault : Option ImaFault) → 4 * ch ≤ length bytes → fault ≡ first_fault bytes ch
    → block_answer bytes ch ≡ option_map_or (λ f. Err f) fault (Ok (block_frames (length bytes) ch))
unfolding block_answer
answer-whole bytes ch fault whole is =
    ap (λ b. cond b (Ok 0) (option_map_or (λ f. Err f) (first_fault bytes ch) (Ok (block_frames (length bytes) ch))))
    (le-ltb (length bytes) (4 * ch) whole)
    ∙ ap (λ o. option_map_or (λ f. Err f) o (Ok (block_frames (length bytes) ch))) (sym is)
