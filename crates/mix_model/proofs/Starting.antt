-- A scene before its first frame.
use Rattle.std.proofs.Common.{◌≡◌, ◌≢◌, ℕ, zero, suc, ◌+◌, ◌<◌, ◌≤◌, Bool, true, false, ◌&&◌, eqb, ltb, List, [], ◌∷◌, ◌++◌, length, get_or, set, refl, sym, ◌∙◌, ap, subst, get_or-set_same, get_or-set_other, arith}
use Rattle.std.specs.Prelude.{All, fold, slice_index, slice_get, nat_le, Option, Some}
use Rattle.std.specs.List.{list_all}
use Rattle.std.specs.Option.{option_map_or}
use Rattle.std.proofs.lemmas.Bool.{and_parts, eqb-true, eqb-false, ltb-true, ltb-false}
use Rattle.std.proofs.lemmas.List.{length-append}
use Rattle.std.proofs.lemmas.List.Sums.{fold-append}
use Rattle.std.proofs.lemmas.Option.{slice_get_read}
use Rattle.scene_clips.specs.SceneClipData.{SceneClipData}
use Rattle.scene_model.specs.declared.edit.Edit.{Edit}
use Rattle.scene_model.specs.declared.node.Node.{Node}
use Rattle.scene_model.specs.declared.order.NumberedEdit.{NumberedEdit}
use Rattle.scene_model.specs.IsScene.{IsScene, is_time, is_edit, is_edit_row}
use Rattle.scene_model.specs.Limits as limits
use Rattle.scene_model.specs.Opening.{opening}
use Rattle.scene_model.specs.Order.{in_order}
use Rattle.scene_model.specs.PlanData.{PlanData}
use Rattle.scene_model.specs.Plans.{after}
use Rattle.scene_model.specs.SceneData.{SceneData}
use Rattle.scene_model.specs.Times.{plan_before}
use Rattle.scene_model.proofs.Ordered.{order_keeps_all, order_keeps_length}
use Rattle.scene_model.proofs.Seeks.{can_apply_later}
use Rattle.mix_model.specs.Due.{rows_of, IsNext, CanMakeAll}
use Rattle.mix_model.specs.Mix.{clips_of, kind_frames, node_frames, cursor_before}
use Rattle.mix_model.proofs.Frames.{no_frames_past}

pub plan_start : (s : SceneData) → plan_before s 0 ≡ opening s
unfolding plan_before
plan_start s = refl

pub cursor_start : (clips : List SceneClipData) (s : SceneData) (n : ℕ) → cursor_before clips s n 0 ≡ 0
unfolding cursor_before
cursor_start clips s n = refl

pub next_start : (edits : List NumberedEdit) → IsNext edits 0 0
next_start edits = record { within = omega arith; earlier = λ k below. absurd (omega arith); waiting = λ k le lt. omega arith }

-- each edit of a scene may be applied after those before it
can_from : (s : SceneData) (done : List Edit) (edits : List NumberedEdit) → length done + length edits < limits.most_seeks → list_all (is_edit_row (length s.nodes)) (rows_of edits) ≡ true → CanMakeAll (fold after (opening s) done) edits
can_from s done [] few all = tt
can_from s done (e ∷ edits) few all =
    let both = and_parts (is_edit_row (length s.nodes) e.row) (list_all (is_edit_row (length s.nodes)) (rows_of edits)) all in
    let row = and_parts (is_time e.row.at && nat_le e.row.editor limits.last_editor) (is_edit (length s.nodes) e.row.edit) both.0 in
    let one : length (done ++ e.row.edit ∷ []) ≡ length done + 1 = length-append done (e.row.edit ∷ []) in
    let later = can_from s (done ++ e.row.edit ∷ []) edits (omega arith) both.1 in
    (can_apply_later s done (omega arith) e.row.edit row.1, subst (λ (p : PlanData). CanMakeAll p edits) (fold-append after (opening s) done (e.row.edit ∷ [])) later)

pub can_start : (s : SceneData) (edits : List NumberedEdit) → IsScene s → edits ≡ in_order s.edits → CanMakeAll (opening s) edits
can_start s edits is e =
    let most = is.edits_most in
    let count = order_keeps_length s.edits in
    rw e (can_from s [] (in_order s.edits) (omega arith) (order_keeps_all s.edits (is_edit_row (length s.nodes)) is.edits_are))

pub channels_start : (s : SceneData) (files : List (List ℕ)) (clips : List SceneClipData) → clips ≡ clips_of s files → All (λ (c : SceneClipData). c.channels ≡ s.channels) clips
channels_start s files clips e = rw e (at_each files)
  where
    at_each : (files : List (List ℕ)) (k : ℕ) (d : SceneClipData) → k < length (clips_of s files) → (get_or (clips_of s files) k d).channels ≡ s.channels
    at_each [] k d inside = absurd (omega arith)
    at_each (f ∷ files) zero d inside = refl
    at_each (f ∷ files) (suc k) d inside = at_each files k d (omega arith)

-- ---- the lengths of the nodes' clips

length_is : (s : SceneData) (clips : List SceneClipData) (nodes : List Node) (n v : ℕ) (x : Node) → nodes ≡ s.nodes → n < length nodes → x ≡ get_or nodes n x → v ≡ kind_frames clips x.kind → v ≡ node_frames clips s n
length_is s clips nodes n v x same inside read is =
    let found : slice_get nodes n ≡ Some x = slice_get_read nodes (length nodes) n x refl inside read in
    is ∙ ap (λ (o : Option Node). option_map_or (λ (y : Node). kind_frames clips y.kind) o 0) (sym found ∙ ap (λ ns. slice_get ns n) same)

pub lengths_more : (s : SceneData) (clips : List SceneClipData) (nodes : List Node) (lengths : List ℕ) (n v : ℕ) (x : Node) → nodes ≡ s.nodes → n < length nodes → n < length lengths → x ≡ get_or nodes n x → v ≡ kind_frames clips x.kind → ((k : ℕ) → k < n → slice_index lengths k ≡ node_frames clips s k) → (k : ℕ) → k < n + 1 → slice_index (set lengths n v) k ≡ node_frames clips s k
lengths_more s clips nodes lengths n v x same inside room read is so_far k below = by_test (eqb n k) refl
  where
    by_test : (t : Bool) → eqb n k ≡ t → slice_index (set lengths n v) k ≡ node_frames clips s k
    by_test true e =
        let here : n ≡ k = eqb-true n k e in
        rw (← here, get_or-set_same) (length_is s clips nodes n v x same inside read is)
    by_test false e =
        let other : k ≢ n = λ here. eqb-false n k e (sym here) in
        rw get_or-set_other (so_far k (omega arith))

pub lengths_rest : (lengths : List ℕ) (n v : ℕ) → ((k : ℕ) → n ≤ k → slice_index lengths k ≡ 0) → (k : ℕ) → n + 1 ≤ k → slice_index (set lengths n v) k ≡ 0
lengths_rest lengths n v rest k past =
    let other : k ≢ n = omega arith in
    rw get_or-set_other (rest k (omega arith))

pub lengths_all : (s : SceneData) (clips : List SceneClipData) (lengths : List ℕ) (i : ℕ) → length s.nodes ≤ i → ((k : ℕ) → k < i → slice_index lengths k ≡ node_frames clips s k) → ((k : ℕ) → i ≤ k → slice_index lengths k ≡ 0) → (n : ℕ) → slice_index lengths n ≡ node_frames clips s n
lengths_all s clips lengths i whole so_far rest n = by_test (ltb n i) refl
  where
    by_test : (t : Bool) → ltb n i ≡ t → slice_index lengths n ≡ node_frames clips s n
    by_test true e = so_far n (ltb-true n i e)
    by_test false e =
        let past = ltb-false n i e in
        rest n past ∙ sym (no_frames_past clips s n (omega arith))
