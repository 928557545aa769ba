-- A page that is needed: of a clip that is played, of a sound of a span, and at a frame of the scene.
use Rattle.std.proofs.Common.{◌≡◌, ◌⊎◌, inl, inr, ℕ, ◌+◌, ◌-◌, ◌<◌, ◌≤◌, Bool, true, List, length, map, get_or, Option, Some, None, refl, sym, ◌∙◌, ap, subst, arith}
use Rattle.std.specs.Prelude.{if◌then◌else◌, IsSomeAnd, MatchOption, slice_get, slice_index}
use Rattle.std.proofs.lemmas.Bool.{lt-ltb}
use Rattle.std.proofs.lemmas.List.{length-map}
use Rattle.std.proofs.lemmas.Option.{get_or_from_slice_get, slice_get_cases, slice_get_within}
use Rattle.std.proofs.lemmas.Slice.Zip.{AllZip-left}
use Rattle.scene_clips.specs.ClipFrames.{clip_length}
use Rattle.scene_clips.specs.FilePages.{IsMadeOf}
use Rattle.scene_clips.specs.SceneClipData.{SceneClipData}
use Rattle.scene_model.specs.Order.{in_order}
use Rattle.scene_model.specs.PlanData.{PlanData}
use Rattle.scene_model.specs.SceneData.{SceneData}
use Rattle.scene_model.specs.Times.{plan}
use Rattle.mix_model.specs.Mix.{cursor, node_frames}
use Rattle.mix_model.specs.Pulled.{node, pulled}
use Rattle.mix_model.specs.Spans.{cursor_in, cursor_on, played, IsSteady}
use Rattle.mix_model.proofs.Spans.{cursor_at, cursor_steady, plan_on, played_more, pulled_on}
use Rattle.exec_reel.specs.ClipPages.{page_total}
use Rattle.resource_mgr.specs.Tapes.{AreLater, AreShown, IsLater, bytes_of, clip_of, files_of, shown_to}
use Rattle.resource_mgr.specs.declared.tape.Tape.{Tape}
use Rattle.resource_mgr.proofs.Tapes.{none_missing, not_shown_after}
use Rattle.engine.specs.declared.need.Need.{Need}
use Rattle.engine.specs.declared.playback.Playback.{Playback}
use Rattle.engine.specs.Needs.{IsMissingAt, IsMissingIn, IsMissingOf, IsNeeded, ReadsPage, WasNotShownOf}
use Rattle.engine.specs.Nodes.{IsSoundOf}
use Rattle.engine.specs.Playing.{IsAt, NoEditsBetween}
use Rattle.engine.specs.RendererData.{IsNeedOf, RendererData}
use Rattle.engine.specs.Sounds.{place_in}
use Rattle.engine.proofs.SoundsHeard.{sound_frames}
use Rattle.engine.proofs.SpanPlayed.{is_quiet}

-- ---- a part of what a sound plays

pub missing_at : (c : SceneClipData) (looped : Bool) (cursor frames done part place : ℕ) (t m t' : Tape) (page shown : ℕ)
    → place ≡ played (clip_length c.bytes c.rate) looped cursor done
    → ((i : ℕ) → i < part → played (clip_length c.bytes c.rate) looped place i ≡ place_in (clip_length c.bytes c.rate) place i)
    → done + part ≤ frames → place < clip_length c.bytes c.rate → part ≤ clip_length c.bytes c.rate - place → IsLater t m
    → IsMissingIn c place part m t' page shown → IsMissingAt c looped cursor frames t t' page shown
missing_at c looped cursor frames done part place t m t' page shown here plays within inside most later miss =
    let len = clip_length c.bytes c.rate in
    let first = miss.first in
    let last = miss.last in
    let i = miss.frame - place in
    let short : i < part = omega (arith, first, last) in
    let there : place + i ≡ miss.frame = omega (arith, first) in
    let is : played len looped cursor (done + i) ≡ miss.frame =
    played_more len cursor looped done i ∙ ap (λ p. played len looped p i) (sym here) ∙ plays i short
    ∙ ap (λ (b : Bool). if b then place + i else len) (lt-ltb place len inside) ∙ there in
    record {
      after = done + i;
      within = omega (arith, short, within);
      inside = subst (λ x. x < len) (sym is) (omega (arith, there, short, inside, most));
      made = subst (λ x. IsMadeOf c.bytes c.rate x page) (sym is) miss.made;
      tape = not_shown_after t m t' page shown later miss.tape;
    }

-- ---- tapes that were asked before

some_and : {X : Type 0} (P : X → Type 0) (o : Option X) → IsSomeAnd o P → (x : X) × (o ≡ Some x) × P x
some_and P None is = absurd is
some_and P (Some x) is = (x, refl, is)

laters_there : (ts ms : List Tape) (k : ℕ) (t : Tape) → AreLater ts ms → slice_get ts k ≡ Some t → (m : Tape) × (slice_get ms k ≡ Some m) × IsLater t m
laters_there ts ms k t later here =
    some_and (IsLater t) (slice_get ms k)
    (subst (λ (o : Option Tape). MatchOption o (Unit {0}) (λ x. IsSomeAnd (slice_get ms k) (IsLater x))) here (AllZip-left IsLater ts ms later k))

pub not_shown_of : (ts ms ts' : List Tape) (resource page shown : ℕ) → AreLater ts ms → WasNotShownOf resource ms ts' page shown → WasNotShownOf resource ts ts' page shown
not_shown_of ts ms ts' resource page shown later n t t' here there =
    let m = laters_there ts ms resource t later here in
    not_shown_after t m.0 t' page shown m.2 (n m.0 t' m.1 there)

missing_before : (clips : List SceneClipData) (looped : Bool) (place count : ℕ) (ts ms ts' : List Tape) (resource page shown : ℕ) → AreLater ts ms
    → IsMissingOf clips looped place count ms ts' resource page shown → IsMissingOf clips looped place count ts ts' resource page shown
missing_before clips looped place count ts ms ts' resource page shown later n = record {
  clip = n.clip;
  clip_is = n.clip_is;
  after = n.after;
  within = n.within;
  inside = n.inside;
  made = n.made;
  tape = not_shown_of ts ms ts' resource page shown later n.tape;
}

-- a playback of which no more than its room, its clips and its tapes has changed
pub needed_before : (p m : Playback) (ts' : List Tape) (count resource page shown : ℕ) → m ≡ record p { room = m.room; clips = m.clips; tapes = m.tapes }
    → m.clips.items ≡ p.clips.items → AreLater p.tapes.items m.tapes.items → IsNeeded m ts' count resource page shown → IsNeeded p ts' count resource page shown
needed_before p m ts' count resource page shown same clips later n =
    let stage : m.stage ≡ p.stage = ap (λ (q : Playback). q.stage) same in
    let time : m.time ≡ p.time = ap (λ (q : Playback). q.time) same in
    let cursor_is : slice_index m.cursors n.sound ≡ slice_index p.cursors n.sound = ap (λ (q : Playback). slice_index q.cursors n.sound) same in
    record {
      sound = n.sound;
      below = subst (λ (q : PlanData). n.sound < length q.nodes) stage n.below;
      is_sound = subst (λ (q : PlanData). IsSoundOf resource (node q n.sound).kind) stage n.is_sound;
      is_pulled = sym (ap (λ (q : PlanData). pulled q m.time n.sound) stage ∙ ap (λ t. pulled p.stage t n.sound) time) ∙ n.is_pulled;
      misses = missing_before p.clips.items (node p.stage n.sound).looped (slice_index p.cursors n.sound) count p.tapes.items m.tapes.items ts' resource page shown later
          (subst (λ (cs : List SceneClipData). IsMissingOf cs (node p.stage n.sound).looped (slice_index p.cursors n.sound) count m.tapes.items ts' resource page shown) clips
          (subst (λ k. IsMissingOf m.clips.items (node p.stage n.sound).looped k count m.tapes.items ts' resource page shown) cursor_is
          (subst (λ (q : PlanData). IsMissingOf m.clips.items (node q n.sound).looped (slice_index m.cursors n.sound) count m.tapes.items ts' resource page shown) stage n.misses)));
    }

-- ---- at a frame of the scene

pub reads_page : (p : Playback) (ts' : List Tape) (count resource page shown : ℕ) → IsAt p → NoEditsBetween (in_order p.scene.value.edits) p.time (p.time + count)
    → IsSteady p.stage p.time count → IsNeeded p ts' count resource page shown → ReadsPage p.clips.items p.scene.value p.time (p.time + count) resource page
reads_page p ts' count resource page shown at none steady n =
    let s = p.scene.value in
    let clips = p.clips.items in
    let t = p.time in
    let i = n.misses.after in
    let k = n.sound in
    let len = clip_length n.misses.clip.bytes n.misses.clip.rate in
    let short = n.misses.within in
    let quiet = is_quiet p count at none in
    let same : p.stage ≡ plan s (t + i) = at.moment.plan_is ∙ sym (plan_on s t count quiet i short) in
    let frames : node_frames clips s k ≡ len = sym (at.of_scene.frames_are k) ∙ at.playable.frames_are k n.below ∙ sound_frames clips resource (node p.stage k).kind n.misses.clip n.is_sound n.misses.clip_is in
    let is : cursor clips s k (t + i) ≡ played len (node p.stage k).looped (slice_index p.cursors k) i =
    cursor_at clips s t count k quiet i short
    ∙ ap (λ (q : PlanData). cursor_on q t k (node_frames clips s k) (cursor clips s k t) i) (sym at.moment.plan_is)
    ∙ ap (λ f. cursor_on p.stage t k f (cursor clips s k t) i) frames
    ∙ ap (λ c. cursor_on p.stage t k len c i) (sym (at.moment.cursors_are k))
    ∙ cursor_steady p.stage t count k len (slice_index p.cursors k) steady i (omega (arith, short))
    ∙ ap (λ (b : Bool). cursor_in b len (node p.stage k).looped (slice_index p.cursors k) i) n.is_pulled in
    record {
      frame = t + i;
      first = omega arith;
      last = omega (arith, short);
      sound = k;
      is_sound = subst (λ (q : PlanData). IsSoundOf resource (node q k).kind) same n.is_sound;
      is_pulled = subst (λ (q : PlanData). pulled q (t + i) k ≡ true) same (pulled_on p.stage t count k steady i short ∙ n.is_pulled);
      clip = n.misses.clip;
      clip_is = n.misses.clip_is;
      inside = subst (λ x. x < len) (sym is) n.misses.inside;
      made = subst (λ x. IsMadeOf n.misses.clip.bytes n.misses.clip.rate x page) (sym is) n.misses.made;
    }

-- of a later part of a block
pub reads_before : (clips : List SceneClipData) (s : SceneData) (from later earlier until resource page : ℕ) → from ≤ later → earlier ≤ until
    → ReadsPage clips s later earlier resource page → ReadsPage clips s from until resource page
reads_before clips s from later earlier until resource page less more r = record {
  frame = r.frame;
  first = let e = r.first in omega (arith, e, less);
  last = let e = r.last in omega (arith, e, more);
  sound = r.sound;
  is_sound = r.is_sound;
  is_pulled = r.is_pulled;
  clip = r.clip;
  clip_is = r.clip_is;
  inside = r.inside;
  made = r.made;
}

-- ---- where all pages are shown

mapped_there : {X Y : Type 0} (f : X → Y) (xs : List X) (k : ℕ) (y : Y) → slice_get (map f xs) k ≡ Some y → (x : X) × (slice_get xs k ≡ Some x)
mapped_there {X = X} f xs k y is = by_place (slice_get_cases xs k).1
  where
    inside : k < length xs
    inside = let long = length-map xs f in omega (arith, slice_get_within (map f xs) k y is, long)

    by_place : ((x : X) × (k < length xs) × (slice_get xs k ≡ Some x) × (get_or xs k x ≡ x)) ⊎ ((length xs ≤ k) × (slice_get xs k ≡ None)) → (x : X) × (slice_get xs k ≡ Some x)
    by_place (inl (x, below, here, e)) = (x, here)
    by_place (inr (past, none)) = absurd (omega (arith, inside, past))

pub no_need : (r r' : RendererData) (frames : ℕ) (need : Need) → AreShown r.tapes → AreLater r.tapes r'.tapes → IsNeedOf r r' frames need → ⊥
no_need r r' frames need shown later n =
    let file = mapped_there (λ bytes. record { bytes = bytes; rate = r.scene.rate; channels = r.scene.channels }) (files_of r.tapes) need.resource n.reads.clip n.reads.clip_is in
    let tape = mapped_there bytes_of r.tapes need.resource file.0 file.1 in
    let after = laters_there r.tapes r'.tapes need.resource tape.0 later tape.1 in
    let whole = subst (λ (t : Tape). page_total (clip_of t) ≤ shown_to t) (get_or_from_slice_get r.tapes need.resource tape.0 tape.0 tape.1) (shown need.resource tape.0 (slice_get_within r.tapes need.resource tape.0 tape.1)) in
    none_missing tape.0 after.0 need.page need.shown whole (n.tape tape.0 after.0 tape.1 after.1)
