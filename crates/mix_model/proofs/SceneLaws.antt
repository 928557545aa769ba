-- Silence, edits past the end, and sounds that are left alone.
use Rattle.std.proofs.Common.{◌≡◌, ◌≢◌, ℕ, zero, suc, ◌+◌, ◌<◌, ◌≤◌, Bool, true, false, eqb, ℤ, pos, List, [], ◌∷◌, ◌++◌, length, map, replicate, refl, sym, ◌∙◌, ap, append-nil, arith, cond}
use Rattle.std.specs.Prelude.{fold, filter, min, if◌then◌else◌}
use Rattle.std.specs.List.{range_with_len}
use Rattle.std.proofs.lemmas.Bool.{eqb-true}
use Rattle.std.proofs.lemmas.List.Elements.{All-head, All-tail, filter-append}
use Rattle.scene_clips.specs.SceneClipData.{SceneClipData}
use Rattle.scene_model.specs.declared.edit.Edit.{Edit}
use Rattle.scene_model.specs.declared.edit.Edit.TheVariants.{Attach, Detach, SetGain, Start, Stop, From, Until, Seek, Loop}
use Rattle.scene_model.specs.declared.edit.EditRow.{EditRow}
use Rattle.scene_model.specs.PlanData.{PlanData}
use Rattle.scene_model.specs.Plans.{after}
use Rattle.scene_model.specs.SceneData.{SceneData}
use Rattle.scene_model.specs.Times.{edits_at, plan_before, plan}
use Rattle.mix_fixed.specs.Sound.{sat24}
use Rattle.mix_model.specs.Laws.{NoneAttached, with_edits, NoneSeeks, IsUntouched}
use Rattle.mix_model.specs.Mix.{clips_of, node_frames, cursor_after_edit, next_frame, next_cursor, cursor_before, cursor, frame_state, mix}
use Rattle.mix_model.specs.Pulled.{node, endpoint, pulled}
use Rattle.mix_model.specs.Signals.{FrameState, input_by, input, frame}
use Rattle.mix_model.specs.Iteration.{iterate}
use Rattle.mix_model.proofs.Sums.{front_whole}

-- ---- silence

pub input_none : (m : FrameState) (channel n : ℕ) → NoneAttached m.plan.buses n → input m channel n ≡ pos 0
unfolding input iterate
input_none m channel n none =
    let v = iterate (input_by m channel) (pos 0) (length m.plan.buses) in
    ap sat24 (sym (front_whole m channel v n m.plan.buses 0 (λ k le inside. none k _ inside)))

map_zero : (f : ℕ → ℤ) (ts : List ℕ) → ((t : ℕ) → f t ≡ pos 0) → map f ts ≡ replicate (length ts) (pos 0)
map_zero f [] zero_is = refl
map_zero f (t ∷ ts) zero_is =
    let here = zero_is t in
    let rest = map_zero f ts zero_is in
    cc

map_range : {X : Type 0} (f g : ℕ → X) (a n : ℕ) → ((t : ℕ) → a ≤ t → t < a + n → f t ≡ g t) → map f (range_with_len a n) ≡ map g (range_with_len a n)
map_range f g a zero same = refl
map_range f g a (suc n) same =
    let here = same a (omega arith) (omega arith) in
    let rest = map_range f g (a + 1) n (λ t least below. same t (omega arith) (omega arith)) in
    cc

map_const : {X : Type 0} (x : X) (a n : ℕ) → map (λ (t : ℕ). x) (range_with_len a n) ≡ replicate n x
map_const x a zero = refl
map_const x a (suc n) = ap (λ xs. x ∷ xs) (map_const x (a + 1) n)

pub mix_none : (s : SceneData) (files : List (List ℕ)) → ((t : ℕ) → t < s.length → NoneAttached (plan s t).buses (endpoint (plan s t))) → mix s files ≡ replicate s.length (replicate s.channels (pos 0))
unfolding mix
mix_none s files none =
    let clips = clips_of s files in
    map_range (λ t. frame (frame_state clips s t) s.channels) (λ t. replicate s.channels (pos 0)) 0 s.length
    (λ t least below.
    map_range (λ channel. input (frame_state clips s t) channel (endpoint (plan s t))) (λ channel. pos 0) 0 s.channels
    (λ channel low high. input_none (frame_state clips s t) channel (endpoint (plan s t)) (none t (omega arith)))
    ∙ map_const (pos 0) 0 s.channels)
    ∙ map_const (replicate s.channels (pos 0)) 0 s.length

-- ---- edits past the end

plans_same : (s : SceneData) (rows : List EditRow) → ((t : ℕ) → t < s.length → edits_at rows t ≡ edits_at s.edits t) → (t : ℕ) → t ≤ s.length → plan_before (with_edits s rows) t ≡ plan_before s t
unfolding plan_before
plans_same s rows same zero le = refl
plans_same s rows same (suc t) le =
    ap (λ es. fold after (plan_before (with_edits s rows) t) es) (same t (omega arith))
    ∙ ap (λ p. fold after p (edits_at s.edits t)) (plans_same s rows same t (omega arith))

plan_same : (s : SceneData) (rows : List EditRow) → ((t : ℕ) → t < s.length → edits_at rows t ≡ edits_at s.edits t) → (t : ℕ) → t < s.length → plan (with_edits s rows) t ≡ plan s t
plan_same s rows same t lt =
    ap (λ es. fold after (plan_before (with_edits s rows) t) es) (same t lt)
    ∙ ap (λ p. fold after p (edits_at s.edits t)) (plans_same s rows same t (omega arith))

cursors_same : (clips : List SceneClipData) (s : SceneData) (rows : List EditRow) (n : ℕ) → ((t : ℕ) → t < s.length → edits_at rows t ≡ edits_at s.edits t) → (t : ℕ) → t ≤ s.length → cursor_before clips (with_edits s rows) n t ≡ cursor_before clips s n t
unfolding cursor_before
cursors_same clips s rows n same zero le = refl
cursors_same clips s rows n same (suc t) le =
    let frames = node_frames clips s n in
    ap (λ p. next_cursor p t n frames (fold (cursor_after_edit n frames) (cursor_before clips (with_edits s rows) n t) (edits_at rows t))) (plan_same s rows same t (omega arith))
    ∙ ap (λ es. next_cursor (plan s t) t n frames (fold (cursor_after_edit n frames) (cursor_before clips (with_edits s rows) n t) es)) (same t (omega arith))
    ∙ ap (λ c. next_cursor (plan s t) t n frames (fold (cursor_after_edit n frames) c (edits_at s.edits t))) (cursors_same clips s rows n same t (omega arith))

cursor_same : (clips : List SceneClipData) (s : SceneData) (rows : List EditRow) → ((t : ℕ) → t < s.length → edits_at rows t ≡ edits_at s.edits t) → (t : ℕ) → t < s.length → (n : ℕ) → cursor clips (with_edits s rows) n t ≡ cursor clips s n t
cursor_same clips s rows same t lt n =
    let frames = node_frames clips s n in
    ap (λ es. fold (cursor_after_edit n frames) (cursor_before clips (with_edits s rows) n t) es) (same t lt)
    ∙ ap (λ c. fold (cursor_after_edit n frames) c (edits_at s.edits t)) (cursors_same clips s rows n same t (omega arith))

frame_state_same : (clips : List SceneClipData) (s : SceneData) (rows : List EditRow) → ((t : ℕ) → t < s.length → edits_at rows t ≡ edits_at s.edits t) → (t : ℕ) → t < s.length → frame_state clips (with_edits s rows) t ≡ frame_state clips s t
frame_state_same clips s rows same t lt =
    let places : ◌≡◌ {A = ℕ → ℕ} (λ n. cursor clips (with_edits s rows) n t) (λ n. cursor clips s n t) = λ j. λ n. cursor_same clips s rows same t lt n j in
    ap (λ p. with_parts p (λ n. cursor clips (with_edits s rows) n t)) (plan_same s rows same t lt)
    ∙ ap (with_parts (plan s t)) places
  where
    with_parts : PlanData → (ℕ → ℕ) → FrameState
    with_parts p c = record { plan = p; time = t; clips = clips; cursor = c }

pub mix_same : (s : SceneData) (rows : List EditRow) (files : List (List ℕ)) → ((t : ℕ) → t < s.length → edits_at rows t ≡ edits_at s.edits t) → mix (with_edits s rows) files ≡ mix s files
unfolding mix
mix_same s rows files same =
    let clips = clips_of s files in
    map_range (λ t. frame (frame_state clips (with_edits s rows) t) s.channels) (λ t. frame (frame_state clips s t) s.channels) 0 s.length
    (λ t least below. ap (λ m. frame m s.channels) (frame_state_same clips s rows same t (omega arith)))

one_past : (row : EditRow) (t : ℕ) → (row.at ≡ t → ⊥) → filter (λ (r : EditRow). eqb r.at t) (row ∷ []) ≡ []
one_past row t other = by_test (eqb row.at t) refl
  where
    by_test : (b : Bool) → eqb row.at t ≡ b → cond b (row ∷ []) [] ≡ []
    by_test true e = absurd (other (eqb-true row.at t e))
    by_test false e = refl

pub edit_past : (s : SceneData) (row : EditRow) → s.length ≤ row.at → (t : ℕ) → t < s.length → edits_at (s.edits ++ row ∷ []) t ≡ edits_at s.edits t
edit_past s row past t lt =
    let at = λ (r : EditRow). eqb r.at t in
    ap (map (λ (r : EditRow). r.edit)) (filter-append at s.edits (row ∷ []) ∙ ap (λ xs. filter at s.edits ++ xs) (one_past row t (λ e. omega arith)) ∙ append-nil (filter at s.edits))

-- ---- sounds that are left alone

cursor_after_edit_same : (n frames c : ℕ) (e : Edit) → ((place : ℕ) → e ≢ Seek n place) → cursor_after_edit n frames c e ≡ c
cursor_after_edit_same n frames c (Seek target place) other = by_test (eqb target n) refl
  where
    by_test : (t : Bool) → eqb target n ≡ t → (if t then min place frames else c) ≡ c
    by_test true e = absurd (other place (ap (λ k. Seek k place) (eqb-true target n e)))
    by_test false e = refl
cursor_after_edit_same n frames c (Attach target out to) other = refl
cursor_after_edit_same n frames c (Detach target out) other = refl
cursor_after_edit_same n frames c (SetGain target out gain) other = refl
cursor_after_edit_same n frames c (Start target) other = refl
cursor_after_edit_same n frames c (Stop target) other = refl
cursor_after_edit_same n frames c (From target value) other = refl
cursor_after_edit_same n frames c (Until target value) other = refl
cursor_after_edit_same n frames c (Loop target on) other = refl

pub cursor_after_edit_all : (n frames c : ℕ) (es : List Edit) → NoneSeeks n es → fold (cursor_after_edit n frames) c es ≡ c
cursor_after_edit_all n frames c [] none = refl
cursor_after_edit_all n frames c (e ∷ es) none =
    let P = λ (x : Edit). (place : ℕ) → x ≢ Seek n place in
    ap (λ k. fold (cursor_after_edit n frames) k es) (cursor_after_edit_same n frames c e (All-head P e es none)) ∙ cursor_after_edit_all n frames c es (All-tail P e es none)

left_alone : (clips : List SceneClipData) (s : SceneData) (n t : ℕ) → ((u : ℕ) → u < t → NoneSeeks n (edits_at s.edits u)) → ((u : ℕ) → u < t → pulled (plan s u) u n ≡ false) → cursor_before clips s n t ≡ 0
unfolding cursor_before
left_alone clips s n zero none still = refl
left_alone clips s n (suc t) none still =
    let frames = node_frames clips s n in
    let rest = left_alone clips s n t (λ u below. none u (omega arith)) (λ u below. still u (omega arith)) in
    let c = fold (cursor_after_edit n frames) (cursor_before clips s n t) (edits_at s.edits t) in
    ap (λ (b : Bool). if b then next_frame frames (node (plan s t) n).looped c else c) (still t (omega arith))
    ∙ cursor_after_edit_all n frames (cursor_before clips s n t) (edits_at s.edits t) (none t (omega arith)) ∙ rest

pub untouched : (clips : List SceneClipData) (s : SceneData) (n t : ℕ) → IsUntouched s n t → cursor clips s n t ≡ 0
untouched clips s n t is =
    cursor_after_edit_all n (node_frames clips s n) (cursor_before clips s n t) (edits_at s.edits t) (is.not_sought t (omega arith))
    ∙ left_alone clips s n t (λ u below. is.not_sought u (omega arith)) is.not_pulled
