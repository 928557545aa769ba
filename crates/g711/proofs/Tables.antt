-- A table of 256 entries read at a code.
use Rattle.std.proofs.Common.{◌≡◌, ℕ, ◌<◌, List, length, map, get_or, slice_index_or, ℤ, pos, to_z, of_z, arith, ap, sym, ◌∙◌}
use Rattle.std.specs.Int.{w16}
use Rattle.std.specs.List.{range_with_len}
use Rattle.std.proofs.lemmas.List.FromFn.{get_or-map-range_with_len}
use Rattle.std.proofs.lemmas.List.{get_or-map}

-- where the table's entries are those of f, the entry at a code is f's
pub entry :
    (f : ℕ → ℤ) (code : ℕ) (table : List ℤ) → code < 256 → length table ≡ 256
    → map (λ x. to_z w16 (of_z w16 x)) table ≡ map f (range_with_len 0 256)
    → to_z w16 (of_z w16 (slice_index_or table code (pos 0))) ≡ f code
entry f code table below full same =
    sym (get_or-map (λ x. to_z w16 (of_z w16 x)) table code (pos 0) (pos 0) (omega arith))
    ∙ ap (λ xs. get_or xs code (pos 0)) same
    ∙ get_or-map-range_with_len f 0 256 code code (pos 0) below (omega arith)
