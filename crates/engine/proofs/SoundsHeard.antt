-- What a sound of a playback puts out.
use Rattle.std.proofs.Common.{◌≡◌, ℕ, ◌+◌, ◌*◌, ◌/◌, ◌%◌, ◌<◌, ◌≤◌, true, ℤ, pos, List, length, Option, Some, None, refl, sym, ◌∙◌, ap, subst, arith}
use Rattle.std.specs.Prelude.{All, IfSome, slice_index, slice_get}
use Rattle.std.specs.Option.{option_map_or}
use Rattle.std.proofs.lemmas.Option.{slice_get_within, get_or_from_slice_get}
use Rattle.mix_fixed.specs.Kernels.{at}
use Rattle.scene_clips.specs.SceneClipData.{SceneClipData}
use Rattle.scene_clips.specs.ClipFrames.{clip_length}
use Rattle.scene_model.specs.declared.node.NodeKind.{NodeKind}
use Rattle.scene_model.specs.declared.node.NodeKind.TheVariants.{Sound}
use Rattle.scene_model.specs.PlanData.{PlanData}
use Rattle.mix_model.specs.Mix.{kind_frames}
use Rattle.mix_fixed.proofs.Rounding.{quotient_below}
use Rattle.mix_model.specs.Pulled.{node, is_active, pulled}
use Rattle.mix_model.specs.Signals.{input, kind_output, sample_at}
use Rattle.mix_model.specs.Spans.{IsSteady}
use Rattle.engine.specs.declared.playback.Playback.{Playback}
use Rattle.engine.specs.Nodes.{IsPlayable, IsSpanOf, IsSoundOf}
use Rattle.engine.specs.Sounds.{ArePlayed, IsPlayedAt, PlaysFrom}
use Rattle.engine.specs.Span.{Span, state_at, AreOutputs, IsSteadyAt, node_places}
use Rattle.engine.proofs.PlayedParts.{sound_outputs}

of_all : {X : Type 0} (P : X → Type 0) (xs : List X) (k : ℕ) (x : X) → All P xs → slice_get xs k ≡ Some x → P x
of_all P xs k x all is = subst P (get_or_from_slice_get xs k x x is) (all k x (slice_get_within xs k x is))

-- the frames of a sound's clip
pub sound_frames : (clips : List SceneClipData) (resource : ℕ) (kind : NodeKind) (c : SceneClipData) → IsSoundOf resource kind → slice_get clips resource ≡ Some c → kind_frames clips kind ≡ clip_length c.bytes c.rate
sound_frames clips resource kind c (looped, is) there =
    ap (kind_frames clips) is ∙ ap (λ (o : Option SceneClipData). option_map_or (λ (x : SceneClipData). clip_length x.bytes x.rate) o 0) there

pub clip_channels : (p : Playback) (resource : ℕ) (c : SceneClipData) → IsPlayable p → slice_get p.clips.items resource ≡ Some c → c.channels ≡ p.channels
clip_channels p resource c is there = of_all (λ (x : SceneClipData). x.channels ≡ p.channels) p.clips.items resource c is.clips_are there

pub sound_heard : (s : Span) (p : Playback) (n resource count : ℕ) (c : SceneClipData) (xs : List ℤ) → IsPlayable p → n < length p.stage.nodes → IsSoundOf resource (node p.stage n).kind → slice_get p.clips.items resource ≡ Some c
    → IsSpanOf s p count → pulled p.stage p.time n ≡ true → ArePlayed c (node p.stage n).looped (slice_index p.cursors n) (count * c.channels) xs → AreOutputs s (count * p.channels) n xs
sound_heard s p n resource count c xs is below (starts, kind) there span pulls played =
    let channels = clip_channels p resource c is there in
    let frames : s.frames n ≡ clip_length c.bytes c.rate = span.frames_are n ∙ is.frames_are n below ∙ sound_frames p.clips.items resource (node p.stage n).kind c (starts, kind) there in
    let plays : PlaysFrom s n c (node p.stage n).looped (slice_index p.cursors n) = record {
      resource = resource;
      starts_looped = starts;
      kind_is = ap (λ (q : PlanData). (node q n).kind) span.plan_is ∙ kind;
      looped_is = ap (λ (q : PlanData). (node q n).looped) span.plan_is;
      clip_is = ap (λ (cs : List SceneClipData). slice_get cs resource) span.clips_are ∙ there;
      channels_are = span.channels_are ∙ sym channels;
      frames_are = frames;
      cursor_is = span.cursors_are n;
      is_pulled = ap (λ (q : PlanData). pulled q s.first.time n) span.plan_is ∙ ap (λ t. pulled p.stage t n) span.time_is ∙ pulls;
    } in
    let steady : IsSteady s.first.plan s.first.time count = subst (λ t. IsSteady s.first.plan t count) (sym span.time_is) (subst (λ (q : PlanData). IsSteady q p.time count) (sym span.plan_is) span.steady) in
    subst (λ k. AreOutputs s (count * k) n xs) channels (sound_outputs s n c (node p.stage n).looped (slice_index p.cursors n) count xs (subst (λ k. 1 ≤ k) (sym channels) is.channels_least) plays steady played)

-- a resource that isn't there is silent
pub silence_put_out : (s : Span) (p : Playback) (n resource count places : ℕ) (xs : List ℤ) → IsSoundOf resource (node p.stage n).kind → slice_get p.clips.items resource ≡ None
    → IsSpanOf s p count → places ≤ node_places → ((j : ℕ) → j < node_places → at xs j ≡ pos 0) → AreOutputs s places n xs
silence_put_out s p n resource count places xs (starts, kind) none span few silent j below =
    let is : (node s.first.plan n).kind ≡ Sound resource starts = ap (λ (q : PlanData). (node q n).kind) span.plan_is ∙ kind in
    let absent : slice_get s.first.clips resource ≡ None = ap (λ (cs : List SceneClipData). slice_get cs resource) span.clips_are ∙ none in
    silent j (omega (arith, below, few))
    ∙ sym (ap (λ (o : Option SceneClipData). option_map_or (λ (x : SceneClipData). sample_at x ((state_at s j).cursor n) (j % s.channels)) o (pos 0)) absent)
    ∙ sym (ap (λ (k : NodeKind). kind_output s.first.clips (j % s.channels) ((state_at s j).cursor n) (input (state_at s j) (j % s.channels) n) k) is)

-- the same nodes are active at all places
pub steady_places : (s : Span) (p : Playback) (count : ℕ) → IsPlayable p → IsSpanOf s p count → IsSteadyAt s (count * p.channels)
steady_places s p count is span j n below =
    let some : 0 < s.channels = let e = span.channels_are in let least = is.channels_least in omega (arith, e, least) in
    let wide : count * s.channels ≡ count * p.channels = ap (λ k. count * k) span.channels_are in
    let short : j / s.channels < count = quotient_below j count s.channels some (omega (arith, below, wide)) in
    ap (λ (q : PlanData). is_active (s.first.time + j / s.channels) (node q n)) span.plan_is
    ∙ ap (λ t. is_active (t + j / s.channels) (node p.stage n)) span.time_is
    ∙ span.steady (j / s.channels) n short
    ∙ sym (ap (λ (q : PlanData). is_active s.first.time (node q n)) span.plan_is ∙ ap (λ t. is_active t (node p.stage n)) span.time_is)

-- ---- a resource that may be there or not

pub played_here : (p : Playback) (n resource : ℕ) → IsPlayable p → n < length p.stage.nodes → IsSoundOf resource (node p.stage n).kind
    → IfSome (slice_get p.clips.items resource) (λ (c : SceneClipData). IsPlayedAt c (slice_index p.cursors n))
played_here p n resource is below sound = by_option (slice_get p.clips.items resource) refl
  where
    by_option : (o : Option SceneClipData) → slice_get p.clips.items resource ≡ o → IfSome o (λ (c : SceneClipData). IsPlayedAt c (slice_index p.cursors n))
    by_option None e = tt
    by_option (Some c) e =
        let same = clip_channels p resource c is e in
        record {
          channels_least = subst (λ k. 1 ≤ k) (sym same) is.channels_least;
          channels_most = subst (λ k. k ≤ 2) (sym same) is.channels_most;
          cursor_most = subst (λ f. slice_index p.cursors n ≤ f) (is.frames_are n below ∙ sound_frames p.clips.items resource (node p.stage n).kind c sound e) (is.cursors_most n below);
        }

pub resource_heard : (s : Span) (p : Playback) (n resource count : ℕ) (xs : List ℤ) → IsPlayable p → n < length p.stage.nodes → IsSoundOf resource (node p.stage n).kind → IsSpanOf s p count → pulled p.stage p.time n ≡ true
    → IfSome (slice_get p.clips.items resource) (λ (c : SceneClipData). ArePlayed c (node p.stage n).looped (slice_index p.cursors n) (count * c.channels) xs)
    → count * p.channels ≤ node_places → (slice_get p.clips.items resource ≡ None → (j : ℕ) → j < node_places → at xs j ≡ pos 0) → AreOutputs s (count * p.channels) n xs
resource_heard s p n resource count xs is below sound span pulls heard few silent = by_option (slice_get p.clips.items resource) refl heard
  where
    by_option : (o : Option SceneClipData) → slice_get p.clips.items resource ≡ o
        → IfSome o (λ (c : SceneClipData). ArePlayed c (node p.stage n).looped (slice_index p.cursors n) (count * c.channels) xs) → AreOutputs s (count * p.channels) n xs
    by_option None e played = silence_put_out s p n resource count (count * p.channels) xs sound e span few (silent e)
    by_option (Some c) e played = sound_heard s p n resource count c xs is below sound e span pulls played
