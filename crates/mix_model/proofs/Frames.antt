-- One frame of a scene: its edits, its inputs, and the cursors after it.
use Rattle.std.proofs.Common.{◌≡◌, ℕ, zero, suc, ◌+◌, ◌<◌, ◌≤◌, Bool, true, false, eqb, ltb, List, [], ◌∷◌, length, get_or, min, refl, sym, ◌∙◌, ap, subst, arith, ℤ, ◌++◌, append_assoc, append-nil}
use Rattle.std.specs.Prelude.{All, fold, slice_index, if◌then◌else◌, Option}
use Rattle.std.specs.List.Sorted.{IsPermutation}
use Rattle.std.specs.Option.{option_map_or}
use Rattle.std.proofs.lemmas.Bool.{ltb-true, ltb-false}
use Rattle.std.proofs.lemmas.List.Concat.{flat_map-append}
use Rattle.std.proofs.lemmas.List.FromFn.{map-range_with_len_more}
use Rattle.std.proofs.lemmas.Option.{slice_get_past}
use Rattle.scene_clips.specs.SceneClipData.{SceneClipData}
use Rattle.scene_model.specs.declared.bus.Bus.{Bus}
use Rattle.scene_model.specs.declared.edit.Edit.{Edit}
use Rattle.scene_model.specs.declared.edit.Edit.TheVariants.{Attach, Detach, SetGain, Start, Stop, From, Until, Seek, Loop}
use Rattle.scene_model.specs.declared.node.Node.{Node}
use Rattle.scene_model.specs.declared.node_state.NodeState.{NodeState}
use Rattle.scene_model.specs.declared.order.NumberedEdit.{NumberedEdit}
use Rattle.scene_model.specs.Order.{in_order}
use Rattle.scene_model.specs.PlanData.{PlanData}
use Rattle.scene_model.specs.Plans.{after}
use Rattle.scene_model.specs.SceneData.{SceneData}
use Rattle.scene_model.specs.Times.{edits_at, plan_before, plan}
use Rattle.scene_model.proofs.Ordered.{order_ascends, order_keeps_edits}
use Rattle.mix_model.specs.Due.{no_edit, due, IsNext, AreInOrder}
use Rattle.mix_model.specs.Mix.{kind_frames, node_frames, cursor_after_edit, next_frame, next_cursor, cursor_before, cursor, frame_state, frames_from}
use Rattle.clip_decode.specs.Frames.{interleaved}
use Rattle.mix_model.specs.Pulled.{no_node, endpoint, pulled}
use Rattle.mix_model.specs.Signals.{FrameState, input, frame}
use Rattle.mix_model.specs.OrderedBuses.{plan_of, frame_state_of, mark_at, cursor_after, HaveChannel}
use Rattle.mix_model.proofs.DueEdits.{due_skip, none_left}
use Rattle.mix_model.proofs.Inputs.{input-reordered}
use Rattle.mix_model.proofs.Pulls.{pulled-reordered}

-- ---- the edits of the frame

pub edits_in_order : (s : SceneData) (edits : List NumberedEdit) → edits ≡ in_order s.edits → AreInOrder edits
edits_in_order s edits e j k le inside = rw e (order_ascends s.edits j k no_edit le (let h : k < length edits = inside in rw (sym e) h))

due_is : (s : SceneData) (edits : List NumberedEdit) (t : ℕ) → edits ≡ in_order s.edits → due edits t ≡ edits_at s.edits t
due_is s edits t e = ap (λ es. due es t) e ∙ order_keeps_edits s.edits t

pub plan_due : (s : SceneData) (edits : List NumberedEdit) (t : ℕ) (old new : PlanData) → edits ≡ in_order s.edits → old ≡ plan_before s t → new ≡ fold after old (due edits t) → new ≡ plan s t
plan_due s edits t old new e was is = is ∙ ap (fold after old) (due_is s edits t e) ∙ ap (λ p. fold after p (edits_at s.edits t)) was

pub cursor_due : (s : SceneData) (clips : List SceneClipData) (edits : List NumberedEdit) (t n frames old new : ℕ) → edits ≡ in_order s.edits → frames ≡ node_frames clips s n → old ≡ cursor_before clips s n t → new ≡ fold (cursor_after_edit n frames) old (due edits t) → new ≡ cursor clips s n t
cursor_due s clips edits t n frames old new e count was is =
    is ∙ ap (fold (cursor_after_edit n frames) old) (due_is s edits t e)
    ∙ ap (λ f. fold (cursor_after_edit n f) old (edits_at s.edits t)) count
    ∙ ap (λ c. fold (cursor_after_edit n (node_frames clips s n)) c (edits_at s.edits t)) was

-- where the place of the next edit stays, none was due
pub nothing_due : (edits : List NumberedEdit) (t place : ℕ) → IsNext edits t place → IsNext edits (t + 1) place → due edits t ≡ []
nothing_due edits t place before next =
    sym (due_skip edits place t before.earlier before.within) ∙ none_left edits place t (λ k le lt. omega (arith, next.waiting k le lt))

-- ---- the inputs

pub input_is : (s : SceneData) (clips : List SceneClipData) (t : ℕ) (p : PlanData) (nodes : List NodeState) (ordered_buses : List Bus) (cursors : List ℕ) (channel n : ℕ) → nodes ≡ p.nodes → p ≡ plan s t → IsPermutation p.buses ordered_buses → ((n : ℕ) → slice_index cursors n ≡ cursor clips s n t) → input (frame_state_of nodes ordered_buses t clips cursors) channel n ≡ input (frame_state clips s t) channel n
input_is s clips t p nodes ordered_buses cursors channel n nodes_are plan_is moves cursors_are =
    let places : ◌≡◌ {A = ℕ → ℕ} (λ k. slice_index cursors k) (λ k. cursor clips s k t) = λ j. λ k. cursors_are k j in
    let same_nodes : nodes ≡ (plan s t).nodes = nodes_are ∙ ap (λ (q : PlanData). q.nodes) plan_is in
    ap (λ ns. input (frame_state_of ns ordered_buses t clips cursors) channel n) same_nodes
    ∙ ap (λ f. input (with_cursor f) channel n) places
    ∙ input-reordered (frame_state clips s t) ordered_buses channel n (subst (λ (q : PlanData). IsPermutation q.buses ordered_buses) plan_is moves)
  where
    with_cursor : (ℕ → ℕ) → FrameState
    with_cursor f = record { plan = plan_of (plan s t).nodes ordered_buses; time = t; clips = clips; cursor = f }

pub have_channel : (s : SceneData) (clips : List SceneClipData) (channel : ℕ) → All (λ (c : SceneClipData). c.channels ≡ s.channels) clips → channel < s.channels → HaveChannel channel clips
have_channel s clips channel all lt k d inside = rw (all k d inside) lt

-- ---- the cursors after it

cursor_after_edit_none : (n : ℕ) (es : List Edit) → fold (cursor_after_edit n 0) 0 es ≡ 0
cursor_after_edit_none n [] = refl
cursor_after_edit_none n (e ∷ es) = ap (λ c. fold (cursor_after_edit n 0) c es) (at_one e) ∙ cursor_after_edit_none n es
  where
    by_test : (t : Bool) (place : ℕ) → (if t then min place 0 else 0) ≡ 0
    by_test true place = omega arith
    by_test false place = refl

    at_one : (e : Edit) → cursor_after_edit n 0 0 e ≡ 0
    at_one (Seek target place) = by_test (eqb target n) place
    at_one (Attach target out to) = refl
    at_one (Detach target out) = refl
    at_one (SetGain target out gain) = refl
    at_one (Start target) = refl
    at_one (Stop target) = refl
    at_one (From target value) = refl
    at_one (Until target value) = refl
    at_one (Loop target on) = refl

next_frame_none : (is_pulled looped : Bool) → (if is_pulled then next_frame 0 looped 0 else 0) ≡ 0
next_frame_none true true = refl
next_frame_none true false = refl
next_frame_none false looped = refl

-- what plays no frame stays at its first
stays : (clips : List SceneClipData) (s : SceneData) (n t : ℕ) → node_frames clips s n ≡ 0 → cursor_before clips s n t ≡ 0
unfolding cursor_before
stays clips s n zero none = refl
stays clips s n (suc t) none =
    ap (λ f. next_cursor (plan s t) t n f (fold (cursor_after_edit n f) (cursor_before clips s n t) (edits_at s.edits t))) none
    ∙ ap (λ c. next_cursor (plan s t) t n 0 (fold (cursor_after_edit n 0) c (edits_at s.edits t))) (stays clips s n t none)
    ∙ ap (next_cursor (plan s t) t n 0) (cursor_after_edit_none n (edits_at s.edits t))
    ∙ next_frame_none (pulled (plan s t) t n) _

stays_at : (clips : List SceneClipData) (s : SceneData) (n t : ℕ) → node_frames clips s n ≡ 0 → cursor clips s n t ≡ 0
stays_at clips s n t none =
    ap (λ f. fold (cursor_after_edit n f) (cursor_before clips s n t) (edits_at s.edits t)) none
    ∙ ap (λ c. fold (cursor_after_edit n 0) c (edits_at s.edits t)) (stays clips s n t none)
    ∙ cursor_after_edit_none n (edits_at s.edits t)

pub no_frames_past : (clips : List SceneClipData) (s : SceneData) (n : ℕ) → length s.nodes ≤ n → node_frames clips s n ≡ 0
no_frames_past clips s n past = ap (λ (o : Option Node). option_map_or (λ (x : Node). kind_frames clips x.kind) o 0) (slice_get_past s.nodes n past)

pub cursor_more : (clips : List SceneClipData) (s : SceneData) (n t : ℕ) → cursor_before clips s n (t + 1) ≡ next_cursor (plan s t) t n (node_frames clips s n) (cursor clips s n t)
unfolding cursor_before
cursor_more clips s n t = let e : t + 1 ≡ suc t = omega arith in rw e refl

pub plan_more : (s : SceneData) (t : ℕ) → plan s t ≡ plan_before s (t + 1)
unfolding plan_before
plan_more s t = let e : t + 1 ≡ suc t = omega arith in rw e refl

pub cursor_next : (s : SceneData) (clips : List SceneClipData) (t n : ℕ) (p : PlanData) (nodes : List NodeState) (ordered_buses : List Bus) (marks : List Bool) (frames cursors new : List ℕ)
    → nodes ≡ p.nodes → p ≡ plan s t → IsPermutation p.buses ordered_buses → length p.nodes ≡ length s.nodes
    → slice_index frames n ≡ node_frames clips s n → slice_index cursors n ≡ cursor clips s n t
    → ((n : ℕ) → n ≤ length nodes → mark_at marks n ≡ pulled (plan_of nodes ordered_buses) t n)
    → (n < length nodes → slice_index new n ≡ cursor_after nodes marks frames cursors n) → (length nodes ≤ n → slice_index new n ≡ slice_index cursors n)
    → slice_index new n ≡ cursor_before clips s n (t + 1)
cursor_next s clips t n p nodes ordered_buses marks frames cursors new nodes_are plan_is moves count frames_are cursor_is marked after_is rest = by_test (ltb n (length nodes)) refl
  where
    node_looped : List NodeState → Bool
    node_looped ns = (get_or ns n no_node).looped

    by_test : (b : Bool) → ltb n (length nodes) ≡ b → slice_index new n ≡ cursor_before clips s n (t + 1)
    by_test true e =
        let inside = ltb-true n (length nodes) e in
        let mark : mark_at marks n ≡ pulled (plan s t) t n =
        marked n (omega arith) ∙ ap (λ ns. pulled (plan_of ns ordered_buses) t n) nodes_are ∙ pulled-reordered p ordered_buses t n moves ∙ ap (λ q. pulled q t n) plan_is in
        let same_nodes : nodes ≡ (plan s t).nodes = nodes_are ∙ ap (λ (q : PlanData). q.nodes) plan_is in
        after_is inside
        ∙ ap (λ ns. cursor_after ns marks frames cursors n) same_nodes
        ∙ ap (λ m. if m then next_frame (slice_index frames n) (node_looped (plan s t).nodes) (slice_index cursors n) else slice_index cursors n) mark
        ∙ ap (λ f. if pulled (plan s t) t n then next_frame f (node_looped (plan s t).nodes) (slice_index cursors n) else slice_index cursors n) frames_are
        ∙ ap (λ c. if pulled (plan s t) t n then next_frame (node_frames clips s n) (node_looped (plan s t).nodes) c else c) cursor_is
        ∙ sym (cursor_more clips s n t)
    by_test false e =
        let past = ltb-false n (length nodes) e in
        let none = no_frames_past clips s n (let same = ap length nodes_are in omega arith) in
        rest past ∙ cursor_is ∙ stays_at clips s n t none ∙ sym (stays clips s n (t + 1) none)

-- ---- the samples of the frame

pub frame_more : (m : FrameState) (channel : ℕ) (items old new : List ℤ) (x y : ℤ) → items ≡ old ++ frame m channel → new ≡ items ++ y ∷ [] → y ≡ x → x ≡ input m channel (endpoint m.plan) → new ≡ old ++ frame m (channel + 1)
frame_more m channel items old new x y so_far pushed same is =
    let more = map-range_with_len_more (λ k. input m k (endpoint m.plan)) 0 channel channel (omega arith) in
    pushed ∙ ap (λ xs. xs ++ y ∷ []) so_far ∙ append_assoc old (frame m channel) (y ∷ []) ∙ ap (λ z. old ++ (frame m channel ++ z ∷ [])) (same ∙ is) ∙ ap (λ xs. old ++ xs) (sym more)

-- ---- the samples of frames that follow one another

pub frames_more : (clips : List SceneClipData) (s : SceneData) (from count t : ℕ) (old items new : List ℤ) → t ≡ from + count → items ≡ old ++ interleaved (frames_from clips s from count) → new ≡ items ++ frame (frame_state clips s t) s.channels → new ≡ old ++ interleaved (frames_from clips s from (count + 1))
unfolding interleaved
frames_more clips s from count t old items new time so_far more =
    let step = map-range_with_len_more (λ k. frame (frame_state clips s k) s.channels) from count t (sym time) in
    let joined = flat_map-append (λ (f : List ℤ). f) (frames_from clips s from count) (frame (frame_state clips s t) s.channels ∷ []) in
    more ∙ ap (λ xs. xs ++ frame (frame_state clips s t) s.channels) so_far
    ∙ append_assoc old (interleaved (frames_from clips s from count)) (frame (frame_state clips s t) s.channels)
    ∙ ap (λ xs. old ++ (interleaved (frames_from clips s from count) ++ xs)) (sym (append-nil (frame (frame_state clips s t) s.channels)))
    ∙ ap (λ xs. old ++ xs) (sym joined)
    ∙ ap (λ fs. old ++ interleaved fs) (sym step)
