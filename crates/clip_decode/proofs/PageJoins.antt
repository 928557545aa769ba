-- The pages of a list, one after the other, are the list.
use Rattle.std.proofs.Common.{◌≡◌, ℕ, zero, suc, ◌+◌, ◌*◌, ◌≤◌, List, ◌++◌, length, take, drop, refl, ap, sym, ◌∙◌, arith}
use Rattle.std.specs.Int.{div_ceil}
use Rattle.std.specs.List.{range_with_len, flat_map}
use Rattle.std.proofs.Math.Seq.{take-add}
use Rattle.std.proofs.lemmas.List.{drop-drop, take_all}
use Rattle.clip_decode.specs.Frames.{frames}
use Rattle.clip_decode.specs.Pages.{page_frames}

module _ {X : Type 0} (xs : List X) (m : ℕ) where
  -- n pages from page a on
  joined : (a n : ℕ) → flat_map (λ k. take m (drop (m * k) xs)) (range_with_len a n) ≡ take (m * n) (drop (m * a) xs)
  joined a zero = let none : m * 0 ≡ 0 = omega arith in rw none refl
  joined a (suc n) =
      let next : m * a + m ≡ m * (a + 1) = omega arith in
      let more : m * suc n ≡ m + m * n = omega arith in
      ap (λ ys. take m (drop (m * a) xs) ++ ys)
      (joined (a + 1) n ∙ ap (λ p. take (m * n) (drop p xs)) (sym next) ∙ ap (take (m * n)) (sym (drop-drop m (m * a) xs)))
      ∙ sym (take-add m (m * n) (drop (m * a) xs))
      ∙ ap (λ k. take k (drop (m * a) xs)) (sym more)

  pub all_joined : (n : ℕ) → length xs ≤ m * n → flat_map (λ k. take m (drop (m * k) xs)) (range_with_len 0 n) ≡ xs
  all_joined n all =
      let first : m * 0 ≡ 0 = omega arith in
      joined 0 n ∙ ap (λ p. take (m * n) (drop p xs)) first ∙ take_all (m * n) xs all

pub pages_joined : (bytes : List ℕ) → flat_map (page_frames bytes) (range_with_len 0 (div_ceil (length (frames bytes)) 8192)) ≡ frames bytes
unfolding page_frames
pages_joined bytes = all_joined (frames bytes) 8192 (div_ceil (length (frames bytes)) 8192) (omega arith)
