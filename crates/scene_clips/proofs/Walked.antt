-- A walk over the frames of a clip, and what it writes.
use Rattle.std.proofs.Common.{◌≡◌, ℕ, ◌+◌, ◌*◌, ◌/◌, ◌%◌, ◌<◌, Bool, true, false, ltb, eqb, ℤ, pos, List, length, Option, Some, None, refl, sym, ◌∙◌, ap, subst, arith}
use Rattle.std.specs.Prelude.{slice_index_or, slice_set, nat_lt, if◌then◌else◌}
use borrow.Author.Count.{below_more}
use Rattle.std.proofs.lemmas.List.{get_or-set_same, get_or-set_other}
use Rattle.std.proofs.lemmas.Bool.{lt-ltb, ltb-true, ltb-false, eqb-true, eqb-false}
use Rattle.rate_fit.specs.Conversion.{length_of}
use Rattle.rate_fit.specs.Points.{point_at}
use Rattle.rate_fit.specs.Walk.{Walk, next_point, after}
use Rattle.rate_fit.specs.declared.point.Point.{Point}
use Rattle.scene_clips.specs.ClipFrames.{clip_length, file_rate}
use Rattle.scene_clips.specs.SceneClipData.{SceneClipData}
use Rattle.scene_clips.specs.Walked.{IsWalkOf}

inside_walk : (c : SceneClipData) (n : ℕ) (w : Walk) → IsWalkOf c n w → n < clip_length c.bytes c.rate → nat_lt w.n (length_of w.fit) ≡ true
inside_walk c n w walk below = lt-ltb w.n (length_of w.fit) (omega (arith, walk.place_is, walk.length_is, below))

pub walked : (c : SceneClipData) (n : ℕ) (w v : Walk) → IsWalkOf c n w → n < clip_length c.bytes c.rate → v ≡ after w → IsWalkOf c (n + 1) v
walked c n w v walk below is =
    let on : v ≡ record { fit = w.fit; n = w.n + 1 } = is ∙ ap (λ (b : Bool). if b then record { fit = w.fit; n = w.n + 1 } else w) (inside_walk c n w walk below) in
    subst (λ (x : Walk). IsWalkOf c (n + 1) x) (sym on) (record {
      input_is = walk.input_is;
      output_is = walk.output_is;
      frames_are = walk.frames_are;
      length_is = walk.length_is;
      place_is = ap (λ k. k + 1) walk.place_is;
      conversion = walk.conversion;
    })

the : Point → Option Point → Point
the d None = d
the d (Some p) = p

pub pointed : (c : SceneClipData) (n : ℕ) (w : Walk) (p : Point) → IsWalkOf c n w → n < clip_length c.bytes c.rate → next_point w ≡ Some p → p ≡ point_at (file_rate c.bytes) c.rate n
unfolding the
pointed c n w p walk below is =
    let here : next_point w ≡ Some (point_at w.fit.input_rate w.fit.output_rate w.n) = ap (λ (b : Bool). if b then Some (point_at w.fit.input_rate w.fit.output_rate w.n) else None) (inside_walk c n w walk below) in
    ap (the p) (sym is ∙ here)
    ∙ ap (λ r. point_at r w.fit.output_rate w.n) walk.input_is ∙ ap (λ r. point_at (file_rate c.bytes) r w.n) walk.output_is ∙ ap (point_at (file_rate c.bytes) c.rate) walk.place_is

-- one more frame of two channels
pub pair_more : (P : ℕ → ℕ → ℤ → Type 0) (from k : ℕ) (old new : List ℤ) → ((j : ℕ) → j < 2 * k → slice_index_or new j (pos 0) ≡ slice_index_or old j (pos 0))
    → P (from + k) 0 (slice_index_or new (2 * k) (pos 0)) → P (from + k) 1 (slice_index_or new (2 * k + 1) (pos 0))
    → ((j : ℕ) → j < 2 * k → P (from + j / 2) (j % 2) (slice_index_or old j (pos 0))) → (j : ℕ) → j < 2 * (k + 1) → P (from + j / 2) (j % 2) (slice_index_or new j (pos 0))
pair_more P from k old new before left right so_far j below = by_place (ltb j (2 * k)) (eqb j (2 * k)) refl refl
  where
    by_place : (a b : Bool) → ltb j (2 * k) ≡ a → eqb j (2 * k) ≡ b → P (from + j / 2) (j % 2) (slice_index_or new j (pos 0))
    by_place true b p q = let low = ltb-true j (2 * k) p in rw (before j low) (so_far j low)
    by_place false true p q =
        let same : 2 * k ≡ j = sym (eqb-true j (2 * k) q) in
        let half : j / 2 ≡ k = omega (arith, same) in
        let rest : j % 2 ≡ 0 = omega (arith, same) in
        rw (half, rest) (subst (λ i. P (from + k) 0 (slice_index_or new i (pos 0))) same left)
    by_place false false p q =
        let past = ltb-false j (2 * k) p in
        let other = eqb-false j (2 * k) q in
        let same : 2 * k + 1 ≡ j = omega (arith, past, other, below) in
        let half : j / 2 ≡ k = omega (arith, same) in
        let rest : j % 2 ≡ 1 = omega (arith, same) in
        rw (half, rest) (subst (λ i. P (from + k) 1 (slice_index_or new i (pos 0))) same right)

-- one more frame of one channel
pub single_more : (P : ℕ → ℤ → Type 0) (from k : ℕ) (out : List ℤ) (v : ℤ) → k < length out → P (from + k) v
    → ((j : ℕ) → j < k → P (from + j) (slice_index_or out j (pos 0))) → (j : ℕ) → j < k + 1 → P (from + j) (slice_index_or (slice_set out k v) j (pos 0))
single_more P from k out v inside here so_far =
    below_more (λ j. P (from + j) (slice_index_or (slice_set out k v) j (pos 0))) k
    (λ j low. rw (get_or-set_other out k j v (pos 0) (omega arith)) (so_far j low))
    (rw (get_or-set_same out k v (pos 0) inside) here)
