-- Where a block ends.
use Rattle.std.proofs.Common.{◌≡◌, ◌≢◌, ◌⊎◌, inl, inr, ℕ, zero, suc, ◌+◌, ◌-◌, ◌<◌, ◌≤◌, Bool, true, false, List, [], ◌∷◌, length, map, get_or, refl, sym, ◌∙◌, ap, subst, arith}
use Rattle.std.specs.Prelude.{cond, filter, min, slice_index_or}
use Rattle.std.proofs.lemmas.Bool.{cases_lt, eq-eqb, false≢true}
use Rattle.std.proofs.lemmas.List.{get_or-map, length-map}
use Rattle.scene_model.specs.declared.edit.EditRow.{EditRow}
use Rattle.scene_model.specs.declared.order.NumberedEdit.{NumberedEdit}
use Rattle.scene_model.specs.Order.{in_order}
use Rattle.scene_model.specs.SceneData.{SceneData}
use Rattle.scene_model.specs.Times.{edits_at}
use Rattle.scene_model.proofs.Ordered.{order_keeps_edits}
use Rattle.mix_model.specs.Due.{frame_at, no_edit, rows_of}
use Rattle.mix_model.proofs.Moments.{order_is}
use Rattle.engine.specs.declared.playback.Playback.{Playback}
use Rattle.engine.specs.Playing.{IsAt, IsBlock, NoEditsBetween}
use Rattle.engine.proofs.SpanPlayed.{is_quiet}

none_passes : {X Y : Type 0} (f : X → Y) (p : X → Bool) (xs : List X) (k : ℕ) (d : X) → k < length xs → p (get_or xs k d) ≡ true → map f (filter p xs) ≡ [] → ⊥
none_passes f p [] k d inside passes e = absurd (omega arith)
none_passes {X} {Y} f p (x ∷ xs) zero d inside passes e = by_test (p x) refl e
  where
    by_test : (b : Bool) → p x ≡ b → map f (cond b (x ∷ filter p xs) (filter p xs)) ≡ [] → ⊥
    by_test true is none = let z = ap (λ (ys : List Y). length ys) none in omega (arith, z)
    by_test false is none = false≢true (sym is ∙ passes)
none_passes {X} {Y} f p (x ∷ xs) (suc k) d inside passes e = by_test (none_passes f p xs k d (omega (arith, inside)) passes) (p x) e
  where
    by_test : (map f (filter p xs) ≡ [] → ⊥) → (b : Bool) → map f (cond b (x ∷ filter p xs) (filter p xs)) ≡ [] → ⊥
    by_test rest true none = let z = ap (λ (ys : List Y). length ys) none in omega (arith, z)
    by_test rest false none = rest none

-- an edit falls on its frame
edit_falls : (s : SceneData) (k : ℕ) → k < length (in_order s.edits) → edits_at s.edits (frame_at (in_order s.edits) k) ≢ []
edit_falls s k inside none =
    let edits = in_order s.edits in
    let t = frame_at edits k in
    let row : get_or (rows_of edits) k no_edit.row ≡ (get_or edits k no_edit).row = get_or-map (λ (e : NumberedEdit). e.row) edits k no_edit no_edit.row inside in
    none_passes (λ (r : EditRow). r.edit) (λ (r : EditRow). Rattle.std.specs.Prelude.◌==◌ r.at t) (rows_of edits) k no_edit.row (omega (arith, inside, length-map edits (λ (e : NumberedEdit). e.row)))
    (eq-eqb (get_or (rows_of edits) k no_edit.row).at t (ap (λ (r : EditRow). r.at) row)) (order_keeps_edits s.edits t ∙ none)

-- the frame after a block: 512 frames later, or the next with an edit or the scene's end
pub block_is : (p : Playback) (end : ℕ) → IsAt p → p.time < end → end ≤ p.time + 512 → end ≤ p.scene.value.length → NoEditsBetween (in_order p.scene.value.edits) p.time end
    → (end ≡ p.time + 512) ⊎ (end ≡ p.scene.value.length) ⊎ ((k : ℕ) × (k < length (in_order p.scene.value.edits)) × (end ≡ frame_at (in_order p.scene.value.edits) k))
    → IsBlock p.scene.value p.time (end - p.time)
block_is p end at after most within none whole = record {
  some = omega (arith, after);
  most = omega (arith, most);
  within = omega (arith, after, within);
  quiet = is_quiet p (end - p.time) at (subst (λ e. NoEditsBetween (in_order p.scene.value.edits) p.time e) (sym whole_end) none);
  whole = by whole;
}
  where
    whole_end : p.time + (end - p.time) ≡ end
    whole_end = omega (arith, after)

    by : (end ≡ p.time + 512) ⊎ (end ≡ p.scene.value.length) ⊎ ((k : ℕ) × (k < length (in_order p.scene.value.edits)) × (end ≡ frame_at (in_order p.scene.value.edits) k))
        → (end - p.time ≡ 512) ⊎ (p.time + (end - p.time) ≡ p.scene.value.length) ⊎ (edits_at p.scene.value.edits (p.time + (end - p.time)) ≢ [])
    by (inl full) = inl (omega (arith, full))
    by (inr (inl last)) = inr (inl (whole_end ∙ last))
    by (inr (inr (k, inside, e))) = inr (inr (λ none. edit_falls p.scene.value k inside (ap (edits_at p.scene.value.edits) (sym (whole_end ∙ e)) ∙ none)))

-- the place of the next edit is after all that were made
pub next_edit : (p : Playback) (end : ℕ) → IsAt p → p.place < length (in_order p.scene.value.edits) → end ≤ frame_at (in_order p.scene.value.edits) p.place → NoEditsBetween (in_order p.scene.value.edits) p.time end
next_edit p end at there most k inside later = elim (cases_lt k p.place) [
  | inl early ↦ absurd (let made = at.moment.next.earlier k early in omega (arith, made, later))
  | inr past ↦ let rises = order_is p.scene.value p.place k past inside in omega (arith, rises, most)
]

-- the least of two is one of them
pub least : (a b : ℕ) → (min a b ≡ a) ⊎ (min a b ≡ b)
least a b = elim (cases_lt a b) [
  | inl less ↦ inl (omega (arith, less))
  | inr not_less ↦ inr (omega (arith, not_less))
]

-- no edit is left
pub no_edits_left : (p : Playback) (end : ℕ) → IsAt p → length (in_order p.scene.value.edits) ≤ p.place → NoEditsBetween (in_order p.scene.value.edits) p.time end
no_edits_left p end at all k inside later = absurd (let made = at.moment.next.earlier k (omega (arith, inside, all)) in omega (arith, made, later))
