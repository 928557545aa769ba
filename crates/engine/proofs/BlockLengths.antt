-- The length of a block.
use Rattle.std.proofs.Common.{◌≡◌, ◌≢◌, ◌⊎◌, inl, inr, ℕ, ◌+◌, ◌<◌, ◌≤◌, [], arith}
use Rattle.std.proofs.lemmas.Bool.{cases_lt}
use Rattle.scene_model.specs.SceneData.{SceneData}
use Rattle.scene_model.specs.Times.{edits_at}
use Rattle.engine.specs.Playing.{IsBlock}

-- no block goes on behind another one's end
not_longer : (s : SceneData) (start m n : ℕ) → IsBlock s start m → IsBlock s start n → n ≤ m
not_longer s start m n a b = by_order (cases_lt m n)
  where
    by_order : (m < n) ⊎ (n ≤ m) → n ≤ m
    by_order (inr is) = is
    by_order (inl less) = by_end a.whole
      where
        by_end : (m ≡ 512) ⊎ (start + m ≡ s.length) ⊎ (edits_at s.edits (start + m) ≢ []) → n ≤ m
        by_end (inl full) = absurd (omega (arith, full, less, b.most))
        by_end (inr (inl last)) = absurd (omega (arith, last, less, b.within))
        by_end (inr (inr edited)) = absurd (edited (b.quiet m a.some less))

pub one_length : (s : SceneData) (start m n : ℕ) → IsBlock s start m → IsBlock s start n → m ≡ n
one_length s start m n a b = omega (arith, not_longer s start m n a b, not_longer s start n m b a)
