-- A span of a playback: what its frames are, and what the playback is after it.
use Rattle.std.proofs.Common.{◌≡◌, ◌⊎◌, inl, inr, ℕ, zero, suc, ◌+◌, ◌*◌, ◌/◌, ◌%◌, ◌<◌, ◌≤◌, List, length, refl, sym, ◌∙◌, ap, subst, arith}
use Rattle.std.specs.Prelude.{slice_index}
use Rattle.std.proofs.lemmas.Bool.{cases_lt}
use Rattle.mix_fixed.proofs.Rounding.{quotient_below}
use Rattle.mix_fixed.specs.Kernels.{at}
use Rattle.scene_clips.specs.SceneClipData.{SceneClipData}
use Rattle.scene_model.specs.Order.{in_order}
use Rattle.scene_model.specs.PlanData.{PlanData}
use Rattle.scene_model.specs.SceneData.{SceneData}
use Rattle.scene_model.specs.Times.{plan}
use Rattle.mix_model.specs.Due.{frame_at}
use Rattle.mix_model.specs.Mix.{node_frames, frame_state}
use Rattle.mix_model.specs.Moments.{IsBeforeEdits}
use Rattle.mix_model.specs.Pulled.{endpoint, node, pulled}
use Rattle.mix_model.specs.Signals.{FrameState, input}
use Rattle.mix_model.specs.Spans.{cursor_on, cursor_in, IsQuiet, IsSteady}
use Rattle.mix_model.proofs.Frames.{no_frames_past}
use Rattle.mix_model.proofs.Moments.{frames_played}
use Rattle.mix_model.proofs.ScenePlans.{nodes_at}
use Rattle.mix_model.proofs.Spans.{cursor_steady, goes_on, plan_on, quiet_until}
use Rattle.engine.specs.declared.playback.Playback.{Playback}
use Rattle.engine.specs.Nodes.{IsSpanOf}
use Rattle.engine.specs.Playing.{IsAt, NoEditsBetween, moment_of}
use Rattle.engine.specs.Span.{Span, input_at}
use Rattle.engine.proofs.CursorsWithin.{cursor_most, cursor_on_most}

-- the span that begins at the playback's frame
abbrev pub span_of : Playback → Span
span_of p = record { first = frame_state p.clips.items p.scene.value p.time; frames = node_frames p.clips.items p.scene.value; channels = p.channels }

pub is_span : (p : Playback) (count : ℕ) → IsAt p → IsSteady p.stage p.time count → IsSpanOf (span_of p) p count
is_span p count at steady = record {
  plan_is = sym at.moment.plan_is;
  time_is = refl;
  channels_are = refl;
  steady = steady;
  clips_are = refl;
  cursors_are = λ n. sym (at.moment.cursors_are n);
  frames_are = λ n. sym (at.of_scene.frames_are n);
}

-- no edit falls in it
pub later_edits : (p : Playback) (until : ℕ) → IsAt p → NoEditsBetween (in_order p.scene.value.edits) p.time until → (k : ℕ) → p.place ≤ k → k < length (in_order p.scene.value.edits) → until ≤ frame_at (in_order p.scene.value.edits) k
later_edits p until at none k le inside = let late = at.moment.next.waiting k le inside in none k inside (omega (arith, late))

pub is_quiet : (p : Playback) (count : ℕ) → IsAt p → NoEditsBetween (in_order p.scene.value.edits) p.time (p.time + count) → IsQuiet p.scene.value.edits p.time count
is_quiet p count at none = quiet_until p.scene.value (in_order p.scene.value.edits) p.time p.place count refl at.moment.next (later_edits p (p.time + count) at none)

-- its samples are those of the scene's frames
pub span_heard : (p : Playback) (count j : ℕ) → IsAt p → 0 < p.channels → NoEditsBetween (in_order p.scene.value.edits) p.time (p.time + count) → j < count * p.channels
    → input_at (span_of p) (endpoint p.stage) j
    ≡ input (frame_state p.clips.items p.scene.value (p.time + j / p.channels)) (j % p.channels) (endpoint (plan p.scene.value (p.time + j / p.channels)))
span_heard p count j at some none below =
    let i = j / p.channels in
    let s = p.scene.value in
    let short : i < count = quotient_below j count p.channels some below in
    let quiet = is_quiet p count at none in
    let same : p.stage ≡ plan s (p.time + i) = at.moment.plan_is ∙ sym (plan_on s p.time count quiet i short) in
    ap (λ (m : FrameState). input m (j % p.channels) (endpoint p.stage)) (sym (goes_on p.clips.items s p.time count quiet i short))
    ∙ ap (λ (q : PlanData). input (frame_state p.clips.items s (p.time + i)) (j % p.channels) (endpoint q)) same

-- where its sounds are after it
pub span_played : (p : Playback) (count : ℕ) (cursors : List ℕ) → IsAt p → 0 < count → NoEditsBetween (in_order p.scene.value.edits) p.time (p.time + count) → IsSteady p.stage p.time count
    → ((n : ℕ) → n < length p.stage.nodes → slice_index cursors n ≡ cursor_in (pulled p.stage p.time n) (slice_index p.frames n) (node p.stage n).looped (slice_index p.cursors n) count)
    → ((n : ℕ) → length p.stage.nodes ≤ n → slice_index cursors n ≡ slice_index p.cursors n)
    → IsBeforeEdits p.clips.items p.scene.value (record { plan = p.stage; time = p.time + count; place = p.place; cursors = cursors })
span_played p zero cursors at some none steady moved rest = absurd (omega (arith, some))
span_played p (suc c) cursors at some none steady moved rest =
    frames_played clips s (moment_of p) c cursors at.moment (later_edits p (p.time + suc c) at none) (λ n. by_node n (cases_lt n (length p.stage.nodes)))
  where
    s : SceneData
    s = p.scene.value

    clips : List SceneClipData
    clips = p.clips.items

    by_node : (n : ℕ) → (n < length p.stage.nodes) ⊎ (length p.stage.nodes ≤ n) → slice_index cursors n ≡ cursor_on p.stage p.time n (node_frames clips s n) (slice_index p.cursors n) (suc c)
    by_node n (inl below) =
        moved n below
        ∙ sym (cursor_steady p.stage p.time (suc c) n (slice_index p.frames n) (slice_index p.cursors n) steady (suc c) (omega arith))
        ∙ ap (λ f. cursor_on p.stage p.time n f (slice_index p.cursors n) (suc c)) (at.of_scene.frames_are n)
    by_node n (inr past) =
        let count : length p.stage.nodes ≡ length s.nodes = ap (λ (q : PlanData). length q.nodes) at.moment.plan_is ∙ nodes_at s p.time in
        let none_left : node_frames clips s n ≡ 0 = no_frames_past clips s n (omega (arith, past, count)) in
        let here : slice_index p.cursors n ≤ node_frames clips s n = subst (λ k. k ≤ node_frames clips s n) (sym (at.moment.cursors_are n)) (cursor_most clips s n p.time) in
        let there = cursor_on_most p.stage p.time n (node_frames clips s n) (slice_index p.cursors n) (suc c) here in
        rest n past ∙ omega (arith, here, there, none_left)
