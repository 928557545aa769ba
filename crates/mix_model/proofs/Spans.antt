-- The frames of a span go on from its first.
use Rattle.std.proofs.Common.{◌≡◌, ℕ, zero, suc, ◌+◌, ◌-◌, ◌%◌, ◌<◌, ◌≤◌, Bool, true, false, ◌&&◌, ◌||◌, eqb, leb, ltb, List, length, refl, sym, ◌∙◌, ap, arith}
use Rattle.std.specs.Prelude.{fold, nat_lt, if◌then◌else◌}
use Rattle.std.proofs.Math.Nat.{mod-eq_of_lt}
use Rattle.std.proofs.lemmas.Bool.{leb-true, leb-false, ltb-true, ltb-false}
use Rattle.scene_model.proofs.Ordered.{order_keeps_edits}
use Rattle.scene_clips.specs.SceneClipData.{SceneClipData}
use Rattle.scene_model.specs.declared.node_state.NodeState.{NodeState}
use Rattle.scene_model.specs.declared.order.NumberedEdit.{NumberedEdit}
use Rattle.scene_model.specs.Order.{in_order}
use Rattle.scene_model.specs.PlanData.{PlanData}
use Rattle.scene_model.specs.Plans.{after}
use Rattle.scene_model.specs.SceneData.{SceneData}
use Rattle.scene_model.specs.Times.{plan_before, plan}
use Rattle.mix_model.specs.Due.{due, IsNext, frame_at}
use Rattle.mix_model.specs.Mix.{node_frames, cursor_after_edit, next_frame, next_cursor, cursor_before, cursor, frame_state}
use Rattle.mix_model.specs.Pulled.{node, endpoint, is_active, leads_to_any, pulled_by, pulled}
use Rattle.mix_model.specs.Signals.{FrameState}
use Rattle.mix_model.proofs.CursorLaws.{around}
use Rattle.mix_model.proofs.DueEdits.{due_skip, none_left}
use Rattle.mix_model.proofs.Frames.{cursor_more, plan_more}
use Rattle.mix_model.proofs.Iterating.{iterate-same}
use Rattle.mix_model.proofs.Pulls.{leads_to_any-same}
use Rattle.mix_model.specs.Spans.{cursor_on, state_on, IsQuiet, IsSteady, IsApart, AreApart, played, cursor_in}

-- ---- no edit falls before the next one

pub quiet_until : (s : SceneData) (edits : List NumberedEdit) (t place count : ℕ) → edits ≡ in_order s.edits → IsNext edits (t + 1) place → ((k : ℕ) → place ≤ k → k < length edits → t + count ≤ frame_at edits k) → IsQuiet s.edits t count
quiet_until s edits t place count are next later i some below =
    sym (ap (λ es. due es (t + i)) are ∙ order_keeps_edits s.edits (t + i))
    ∙ sym (due_skip edits place (t + i) (λ k lt. let early = next.earlier k lt in omega (arith, early, some)) next.within)
    ∙ none_left edits place (t + i) (λ k le lt. let late = later k le lt in omega (arith, late, below))

-- ---- plans

pub plan_on : (s : SceneData) (t count : ℕ) → IsQuiet s.edits t count → (i : ℕ) → i < count → plan s (t + i) ≡ plan s t
plan_on s t count quiet zero below = let e : t + 0 ≡ t = omega arith in ap (plan s) e
plan_on s t count quiet (suc i) below =
    let e : t + suc i ≡ (t + i) + 1 = omega arith in
    let none = quiet (suc i) (omega arith) below in
    ap (fold after (plan_before s (t + suc i))) none
    ∙ ap (plan_before s) e
    ∙ sym (plan_more s (t + i))
    ∙ plan_on s t count quiet i (omega arith)

-- ---- cursors

pub cursor_at : (clips : List SceneClipData) (s : SceneData) (t count n : ℕ) → IsQuiet s.edits t count → (i : ℕ) → i < count → cursor clips s n (t + i) ≡ cursor_on (plan s t) t n (node_frames clips s n) (cursor clips s n t) i
unfolding cursor_on
cursor_at clips s t count n quiet zero below = let e : t + 0 ≡ t = omega arith in ap (cursor clips s n) e
cursor_at clips s t count n quiet (suc i) below =
    let e : t + suc i ≡ (t + i) + 1 = omega arith in
    let none = quiet (suc i) (omega arith) below in
    let frames = node_frames clips s n in
    ap (fold (cursor_after_edit n frames) (cursor_before clips s n (t + suc i))) none
    ∙ ap (cursor_before clips s n) e
    ∙ cursor_more clips s n (t + i)
    ∙ ap (λ p. next_cursor p (t + i) n frames (cursor clips s n (t + i))) (plan_on s t count quiet i (omega arith))
    ∙ ap (next_cursor (plan s t) (t + i) n frames) (cursor_at clips s t count n quiet i (omega arith))

pub goes_on : (clips : List SceneClipData) (s : SceneData) (t count : ℕ) → IsQuiet s.edits t count → (i : ℕ) → i < count → frame_state clips s (t + i) ≡ state_on (node_frames clips s) (frame_state clips s t) i
goes_on clips s t count quiet i below =
    let plans = plan_on s t count quiet i below in
    let cursors : ◌≡◌ {A = ℕ → ℕ} (λ n. cursor clips s n (t + i)) (λ n. cursor_on (plan s t) t n (node_frames clips s n) (cursor clips s n t) i) = λ j. λ n. cursor_at clips s t count n quiet i below j in
    ap (λ p. with_plan p) plans ∙ ap (λ f. with_cursor f) cursors
  where
    with_plan : PlanData → FrameState
    with_plan p = record { plan = p; time = t + i; clips = clips; cursor = λ n. cursor clips s n (t + i) }

    with_cursor : (ℕ → ℕ) → FrameState
    with_cursor f = record { plan = plan s t; time = t + i; clips = clips; cursor = f }

-- what the next span begins with
pub plan_end : (s : SceneData) (t count : ℕ) → IsQuiet s.edits t (suc count) → plan_before s (t + suc count) ≡ plan s t
plan_end s t count quiet =
    let e : t + suc count ≡ (t + count) + 1 = omega arith in
    ap (plan_before s) e ∙ sym (plan_more s (t + count)) ∙ plan_on s t (suc count) quiet count (omega arith)

pub cursor_end : (clips : List SceneClipData) (s : SceneData) (t count n : ℕ) → IsQuiet s.edits t (suc count) → cursor_before clips s n (t + suc count) ≡ cursor_on (plan s t) t n (node_frames clips s n) (cursor clips s n t) (suc count)
unfolding cursor_on
cursor_end clips s t count n quiet =
    let e : t + suc count ≡ (t + count) + 1 = omega arith in
    let frames = node_frames clips s n in
    ap (cursor_before clips s n) e
    ∙ cursor_more clips s n (t + count)
    ∙ ap (λ p. next_cursor p (t + count) n frames (cursor clips s n (t + count))) (plan_on s t (suc count) quiet count (omega arith))
    ∙ ap (next_cursor (plan s t) (t + count) n frames) (cursor_at clips s t (suc count) n quiet count (omega arith))

-- ---- where no time of a node falls, the same nodes are active

both_le : (edge t i until : ℕ) → i < until - t → IsApart edge t until → leb edge (t + i) ≡ leb edge t
both_le edge t i until below apart = by_test (leb edge (t + i)) (leb edge t) refl refl
  where
    by_test : (a b : Bool) → leb edge (t + i) ≡ a → leb edge t ≡ b → a ≡ b
    by_test true true p q = refl
    by_test false false p q = refl
    by_test true false p q = let low = leb-true edge (t + i) p in let high = leb-false edge t q in let far = apart high in absurd (omega (arith, below, low, far))
    by_test false true p q = let high = leb-false edge (t + i) p in let low = leb-true edge t q in absurd (omega (arith, low, high))

both_lt : (edge t i until : ℕ) → i < until - t → IsApart edge t until → ltb (t + i) edge ≡ ltb t edge
both_lt edge t i until below apart = by_test (ltb (t + i) edge) (ltb t edge) refl refl
  where
    by_test : (a b : Bool) → ltb (t + i) edge ≡ a → ltb t edge ≡ b → a ≡ b
    by_test true true p q = refl
    by_test false false p q = refl
    by_test true false p q = let low = ltb-true (t + i) edge p in let high = ltb-false t edge q in absurd (omega (arith, low, high))
    by_test false true p q = let high = ltb-false (t + i) edge p in let low = ltb-true t edge q in let far = apart low in absurd (omega (arith, below, high, far))

pub active_same : (n : NodeState) (t i until : ℕ) → i < until - t → AreApart n t until → is_active (t + i) n ≡ is_active t n
active_same n t i until below apart =
    ap (λ (b : Bool). n.started && b && ltb (t + i) n.until) (both_le n.from t i until below apart.from_apart)
    ∙ ap (λ (b : Bool). n.started && leb n.from t && b) (both_lt n.until t i until below apart.until_apart)

pub steady_all : (p : PlanData) (t count : ℕ) → ((n : ℕ) → AreApart (node p n) t (t + count)) → IsSteady p t count
steady_all p t count apart i n below = active_same (node p n) t i (t + count) (omega arith) (apart n)

-- ---- and so the same are pulled

pub pulled_on : (p : PlanData) (t count n : ℕ) → IsSteady p t count → (i : ℕ) → i < count → pulled p (t + i) n ≡ pulled p t n
unfolding pulled
pulled_on p t count n steady i below =
    iterate-same (pulled_by p (t + i)) (pulled_by p t) false
    (λ v w same k.
    ap (λ a. eqb k (endpoint p) || (a && leads_to_any p.buses v k)) (steady i k below)
    ∙ ap (λ x. eqb k (endpoint p) || (is_active t (node p k) && x)) (leads_to_any-same p.buses v w k (λ b among own to e. same to)))
    (suc (length p.buses)) n

pub cursor_steady : (p : PlanData) (t count n frames cursor : ℕ) → IsSteady p t count → (i : ℕ) → i ≤ count → cursor_on p t n frames cursor i ≡ cursor_in (pulled p t n) frames (node p n).looped cursor i
unfolding cursor_on played
cursor_steady p t count n frames cursor steady zero le = at_first (pulled p t n)
  where
    at_first : (b : Bool) → cursor ≡ (if b then cursor else cursor)
    at_first true = refl
    at_first false = refl
cursor_steady p t count n frames cursor steady (suc i) le =
    let rest = cursor_steady p t count n frames cursor steady i (omega arith) in
    ap (next_cursor p (t + i) n frames) rest
    ∙ ap (λ (b : Bool). if b then next_frame frames (node p n).looped (cursor_in (pulled p t n) frames (node p n).looped cursor i) else cursor_in (pulled p t n) frames (node p n).looped cursor i) (pulled_on p t count n steady i (omega arith))
    ∙ both (pulled p t n)
  where
    both : (b : Bool) → (if b then next_frame frames (node p n).looped (if b then played frames (node p n).looped cursor i else cursor) else (if b then played frames (node p n).looped cursor i else cursor)) ≡ (if b then next_frame frames (node p n).looped (played frames (node p n).looped cursor i) else cursor)
    both true = refl
    both false = refl

-- ---- runs: a sound plays frame after frame of its clip up to its end

next_inside : (frames : ℕ) (looped : Bool) (c : ℕ) → c + 1 < frames → next_frame frames looped c ≡ c + 1
next_inside frames looped c below = by_test (nat_lt (c + 1) frames) refl
  where
    by_test : (b : Bool) → nat_lt (c + 1) frames ≡ b → (if b then c + 1 else (if looped then 0 else frames)) ≡ c + 1
    by_test true e = refl
    by_test false e = let past = ltb-false (c + 1) frames e in absurd (omega arith)

next_last : (frames : ℕ) (looped : Bool) (c : ℕ) → frames ≤ c + 1 → next_frame frames looped c ≡ (if looped then 0 else frames)
next_last frames looped c last = by_test (nat_lt (c + 1) frames) refl
  where
    by_test : (b : Bool) → nat_lt (c + 1) frames ≡ b → (if b then c + 1 else (if looped then 0 else frames)) ≡ (if looped then 0 else frames)
    by_test true e = let inside = ltb-true (c + 1) frames e in absurd (omega arith)
    by_test false e = refl

pub played_run : (frames cursor : ℕ) (looped : Bool) (i : ℕ) → cursor + i < frames → played frames looped cursor i ≡ cursor + i
unfolding played
played_run frames cursor looped zero below = omega arith
played_run frames cursor looped (suc i) below =
    let rest = played_run frames cursor looped i (omega arith) in
    let more : cursor + suc i ≡ (cursor + i) + 1 = omega arith in
    ap (next_frame frames looped) rest ∙ next_inside frames looped (cursor + i) (omega arith) ∙ sym more

-- the frame after the clip's last
pub played_end : (frames cursor : ℕ) (looped : Bool) (i : ℕ) → cursor + suc i ≡ frames → played frames looped cursor (suc i) ≡ (if looped then 0 else frames)
unfolding played
played_end frames cursor looped i whole =
    ap (next_frame frames looped) (played_run frames cursor looped i (omega arith)) ∙ next_last frames looped (cursor + i) (omega arith)

pub played_more : (frames cursor : ℕ) (looped : Bool) (i j : ℕ) → played frames looped cursor (i + j) ≡ played frames looped (played frames looped cursor i) j
unfolding played
played_more frames cursor looped i zero = let e : i + 0 ≡ i = omega arith in ap (played frames looped cursor) e
played_more frames cursor looped i (suc j) =
    let e : i + suc j ≡ suc (i + j) = omega arith in
    ap (played frames looped cursor) e ∙ ap (next_frame frames looped) (played_more frames cursor looped i j)

-- a sound at its clip's end: it stays there, or starts again at the next frame
pub played_silent : (frames : ℕ) (i : ℕ) → played frames false frames i ≡ frames
unfolding played
played_silent frames zero = refl
played_silent frames (suc i) = ap (next_frame frames false) (played_silent frames i) ∙ next_last frames false frames (omega arith)

pub played_again : (frames : ℕ) → played frames true frames 1 ≡ 0
unfolding played
played_again frames = next_last frames true frames (omega arith)

-- ---- where a sound is after so many frames

pub played_whole : (frames cursor i : ℕ) → cursor ≤ frames → frames ≤ cursor + i → played frames false cursor i ≡ frames
unfolding played
played_whole frames cursor i le past =
    let left : ℕ = frames - cursor in
    let e : i ≡ left + (i - left) = omega (arith, le, past) in
    ap (played frames false cursor) e ∙ played_more frames cursor false left (i - left) ∙ ap (λ c. played frames false c (i - left)) (at_end left (omega (arith, le))) ∙ played_silent frames (i - left)
  where
    at_end : (l : ℕ) → cursor + l ≡ frames → played frames false cursor l ≡ frames
    at_end zero whole = omega (arith, whole)
    at_end (suc l) whole = played_end frames cursor false l whole

pub played_around : (frames i : ℕ) → 0 < frames → played frames true 0 i ≡ i % frames
unfolding played
played_around frames zero some = sym (mod-eq_of_lt some)
played_around frames (suc i) some = ap (next_frame frames true) (played_around frames i some) ∙ around frames i some

-- a looped sound that gets to its end
pub played_from_end : (frames left count : ℕ) → 0 < left → left ≤ frames → left ≤ count → played frames true (frames - left) count ≡ (count - left) % frames
played_from_end frames zero count some le past = absurd (omega arith)
played_from_end frames (suc l) count some le past =
    let e : count ≡ suc l + (count - suc l) = omega (arith, past) in
    ap (played frames true (frames - suc l)) e ∙ played_more frames (frames - suc l) true (suc l) (count - suc l)
    ∙ ap (λ c. played frames true c (count - suc l)) (played_end frames (frames - suc l) true l (omega (arith, le))) ∙ played_around frames (count - suc l) (omega (arith, le))

-- one that stood there
pub played_at_end : (frames count : ℕ) → 0 < frames → 0 < count → played frames true (frames - 0) count ≡ (count - 1) % frames
played_at_end frames count some more =
    let e : count ≡ 1 + (count - 1) = omega (arith, more) in
    let z : frames - 0 ≡ frames = omega arith in
    ap (λ c. played frames true c count) z ∙ ap (played frames true frames) e ∙ played_more frames frames true 1 (count - 1) ∙ ap (λ c. played frames true c (count - 1)) (played_again frames) ∙ played_around frames (count - 1) some

pub played_nothing : (count : ℕ) → played 0 true 0 count ≡ 0
unfolding played
played_nothing zero = refl
played_nothing (suc i) = ap (next_frame 0 true) (played_nothing i) ∙ next_last 0 true 0 (omega arith)

pub played_start : (frames cursor : ℕ) (looped : Bool) → played frames looped cursor 0 ≡ cursor
unfolding played
played_start frames cursor looped = refl
