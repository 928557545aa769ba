use Rattle.std.proofs.Common.{◌≡◌, ℕ, ◌+◌, ◌*◌, ◌%◌, ◌^◌, ◌<◌, ap, ◌∙◌, arith}
use Rattle.std.specs.Prelude.{bit_or}
use Rattle.std.proofs.lemmas.Nat.{shl_whole, or_shifted}
use Rattle.slot_tags.proofs.tag.SlotTag.value.Goals as goal

halves : (high low : ℕ) → high < 2 ^ 32 → low < 2 ^ 32 → bit_or (high * 2 ^ 32 % 2 ^ 64) low ≡ high * 2 ^ 32 + low
halves high low fits_high fits_low = ap (λ m. bit_or m low) (shl_whole high 32 32 64 fits_high (omega arith)) ∙ or_shifted high 32 low fits_low

pub returns : goal.returns
returns c =
    let slot : ℕ = c.args.self.now.slot in
    let number : ℕ = c.args.self.now.number in
    let fits_slot : slot < 2 ^ 32 = omega arith in
    let fits_number : number < 2 ^ 32 = omega arith in
    ap (λ m. bit_or (m * 2 ^ 32 % 2 ^ 64) c.from-2.result) c.from.ensures ∙ ap (λ m. bit_or (number * 2 ^ 32 % 2 ^ 64) m) c.from-2.ensures ∙ halves number slot fits_number fits_slot
