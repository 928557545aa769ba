-- A block that is rendered, as far as its pages are shown.
use Rattle.std.proofs.Common.{◌≡◌, ℕ, ◌+◌, ◌-◌, ◌*◌, ◌/◌, ◌%◌, ◌<◌, ◌≤◌, Bool, true, false, ℤ, List, length, Option, None, Some, refl, sym, ◌∙◌, ap, subst, arith}
use Rattle.clip_decode.specs.Frames.{interleaved}
use Rattle.mix_fixed.specs.Kernels.{at}
use Rattle.scene_clips.specs.SceneClipData.{SceneClipData}
use Rattle.scene_model.specs.Order.{in_order}
use Rattle.scene_model.specs.SceneData.{SceneData}
use Rattle.mix_model.specs.Mix.{clips_of, frames_from}
use Rattle.mix_model.proofs.FrameSamples.{samples_are}
use Rattle.resource_mgr.specs.Tapes.{AreLater, files_of}
use Rattle.resource_mgr.specs.declared.tape.Tape.{Tape}
use Rattle.resource_mgr.proofs.Tapes.{laters_files}
use Rattle.engine.specs.declared.playback.Playback.{Playback}
use Rattle.engine.specs.Playing.{IsAt, IsBefore, IsBlock, IsInBlock, NoEditsBetween}
use Rattle.engine.specs.RendererData.{IsAtBlock, IsRenderer, IsStanding}
use Rattle.engine.specs.Span.{node_places}
use Rattle.engine.proofs.BlockFrames.{AreHeard, heard_at, heard_more}
use Rattle.engine.proofs.NodesKept.{few_places}

nothing : (n k : ℕ) → n ≡ 0 → n * k ≡ 0
nothing n k none = ap (λ m. m * k) none ∙ omega arith

-- a block whose first edits are made, of which nothing is rendered yet
pub at_block : (p : Playback) (frames : ℕ) (samples : List ℤ) → IsAt p → IsBlock p.scene.value p.time frames
    → NoEditsBetween (in_order p.scene.value.edits) p.time (p.time + frames) → length samples ≡ node_places → IsAtBlock p p.time frames false samples
at_block p frames samples at block quiet room =
    let some = block.some in
    let few = block.most in
    let places = few_places frames p.channels few at.playable.channels_most in
    let wide : (p.time + frames - p.time) * p.channels ≡ frames * p.channels = let e : p.time + frames - p.time ≡ frames = omega arith in ap (λ n. n * p.channels) e in
    record {
      block = λ more. block;
      end = λ none. absurd (omega (arith, some, none));
      inside = record {
        from = omega arith;
        until = omega arith;
        most = omega (arith, few);
        within = block.within;
        quiet = quiet;
        room = omega (arith, wide, places, room);
        at = λ before. at;
        before = λ same. absurd (omega (arith, same, some));
        rendered = λ j below. let none = nothing (p.time - p.time) p.channels (omega arith) in absurd (omega (arith, below, none));
      };
      whole = λ is. absurd (cc);
    }

-- the scene's end
pub at_end : (p : Playback) (samples : List ℤ) → IsBefore p → p.time ≡ p.scene.value.length → IsAtBlock p p.time 0 false samples
at_end p samples before end = record {
  block = λ some. absurd (omega (arith, some));
  end = λ none. end;
  inside = record {
    from = omega arith;
    until = omega arith;
    most = omega arith;
    within = omega (arith, end);
    quiet = λ k inside later. omega (arith, later);
    room = let none = nothing (p.time + 0 - p.time) p.channels (omega arith) in omega (arith, none);
    at = λ less. absurd (omega (arith, less));
    before = λ same. before;
    rendered = λ j below. let none = nothing (p.time - p.time) p.channels (omega arith) in absurd (omega (arith, below, none));
  };
  whole = λ is. absurd (cc);
}

-- a block that is rendered whole
pub block_given : (p : Playback) (clock frames : ℕ) (samples out : List ℤ) → IsInBlock p clock (clock + frames) samples → p.time ≡ clock + frames
    → length out ≡ frames * p.scene.value.channels → ((j : ℕ) → j < length out → at out j ≡ at samples j)
    → out ≡ interleaved (frames_from p.clips.items p.scene.value clock frames)
block_given p clock frames samples out inside whole long same =
    let s = p.scene.value in
    let before = inside.before whole in
    let channels = before.of_scene.channels_are in
    let least = before.playable.channels_least in
    let count : (p.time - clock) * p.channels ≡ frames * p.channels = let e : p.time - clock ≡ frames = omega (arith, whole) in ap (λ n. n * p.channels) e in
    let wide : frames * p.channels ≡ frames * s.channels = ap (λ k. frames * k) channels in
    samples_are p.clips.items s clock frames out (omega (arith, channels, least)) long
    (λ j here.
    same j here ∙ subst (λ k. at samples j ≡ heard_at p.clips.items s (clock + j / k) (j % k)) channels (inside.rendered j (omega (arith, here, long, count, wide))))

-- ---- span after span

-- one span more
pub in_block_next : (p q : Playback) (start end count : ℕ) (old new : List ℤ) → IsInBlock p start end old → p.time < end → q.time ≡ p.time + count → p.time + count ≤ end
    → q.scene.value ≡ p.scene.value → q.channels ≡ p.channels → q.clips.items ≡ p.clips.items → length new ≡ length old
    → (q.time < end → IsAt q) → (q.time ≡ end → IsBefore q)
    → ((j : ℕ) → j < (p.time - start) * p.channels → at new j ≡ at old j)
    → AreHeard p.clips.items p.scene.value p.time p.channels (p.time - start) count new → IsInBlock q start end new
in_block_next p q start end count old new inside left time within scene channels clips long is_at is_before rest here =
    let from = inside.from in
    let room = inside.room in
    let some = (inside.at left).playable.channels_least in
    let wide : (end - start) * q.channels ≡ (end - start) * p.channels = ap (λ k. (end - start) * k) channels in
    record {
      from = omega (arith, from, time);
      until = omega (arith, within, time);
      most = inside.most;
      within = subst (λ (s : SceneData). end ≤ s.length) (sym scene) inside.within;
      quiet = subst (λ (s : SceneData). NoEditsBetween (in_order s.edits) start end) (sym scene) inside.quiet;
      room = omega (arith, room, wide, long);
      at = is_at;
      before = is_before;
      rendered = λ j below.
          let many : q.time - start ≡ (p.time - start) + count = omega (arith, time, from) in
          let places : (q.time - start) * q.channels ≡ ((p.time - start) + count) * p.channels = ap (λ n. n * q.channels) many ∙ ap (λ k. ((p.time - start) + count) * k) channels in
          subst (λ (cs : List SceneClipData). at new j ≡ heard_at cs q.scene.value (start + j / q.channels) (j % q.channels)) (sym clips)
          (subst (λ (s : SceneData). at new j ≡ heard_at p.clips.items s (start + j / q.channels) (j % q.channels)) (sym scene)
          (subst (λ k. at new j ≡ heard_at p.clips.items p.scene.value (start + j / k) (j % k)) (sym channels)
          (heard_more p.clips.items p.scene.value start p.time p.channels (p.time - start) count old new some (omega (arith, from)) rest here inside.rendered j (omega (arith, below, places)))));
    }

-- a span that couldn't be rendered
pub in_block_still : (p q : Playback) (start end : ℕ) (old new : List ℤ) → IsInBlock p start end old → p.time < end → q.time ≡ p.time
    → q.scene.value ≡ p.scene.value → q.channels ≡ p.channels → q.clips.items ≡ p.clips.items → length new ≡ length old → IsAt q
    → ((j : ℕ) → j < (p.time - start) * p.channels → at new j ≡ at old j) → IsInBlock q start end new
in_block_still p q start end old new inside left time scene channels clips long is_at rest =
    let from = inside.from in
    let room = inside.room in
    let wide : (end - start) * q.channels ≡ (end - start) * p.channels = ap (λ k. (end - start) * k) channels in
    record {
      from = omega (arith, from, time);
      until = omega (arith, left, time);
      most = inside.most;
      within = subst (λ (s : SceneData). end ≤ s.length) (sym scene) inside.within;
      quiet = subst (λ (s : SceneData). NoEditsBetween (in_order s.edits) start end) (sym scene) inside.quiet;
      room = omega (arith, room, wide, long);
      at = λ before. is_at;
      before = λ same. absurd (omega (arith, same, time, left));
      rendered = λ j below.
          let places : (q.time - start) * q.channels ≡ (p.time - start) * p.channels = ap (λ t. (t - start) * q.channels) time ∙ ap (λ k. (p.time - start) * k) channels in
          let here : j < (p.time - start) * p.channels = omega (arith, below, places) in
          subst (λ (cs : List SceneClipData). at new j ≡ heard_at cs q.scene.value (start + j / q.channels) (j % q.channels)) (sym clips)
          (subst (λ (s : SceneData). at new j ≡ heard_at p.clips.items s (start + j / q.channels) (j % q.channels)) (sym scene)
          (subst (λ k. at new j ≡ heard_at p.clips.items p.scene.value (start + j / k) (j % k)) (sym channels)
          (rest j here ∙ inside.rendered j here)));
    }

-- the edits between two frames of the block
pub quiet_between : (p : Playback) (start end t until : ℕ) → start ≤ t → until ≤ end → NoEditsBetween (in_order p.scene.value.edits) start end → NoEditsBetween (in_order p.scene.value.edits) t until
quiet_between p start end t until from within quiet k inside later = let far = quiet k inside (omega (arith, from, later)) in omega (arith, far, within)

-- ---- a renderer whose block is rendered on

pub at_block_of : (p : Playback) (clock frames : ℕ) (next : Option ℕ) (ready : Bool) (samples : List ℤ) → next ≡ Some frames → IsStanding p clock next ready samples → IsAtBlock p clock frames ready samples
at_block_of p clock frames next ready samples is standing = subst (λ (o : Option ℕ). IsStanding p clock o ready samples) is standing

pub renderer_on : (p q : Playback) (clock frames : ℕ) (next : Option ℕ) (ready now : Bool) (old new : List ℤ) → IsRenderer p clock next ready old → next ≡ Some frames
    → q.scene.value ≡ p.scene.value → q.clips.items ≡ p.clips.items → AreLater p.tapes.items q.tapes.items → IsInBlock q clock (clock + frames) new
    → (now ≡ true → q.time ≡ clock + frames) → length new ≡ length old → IsRenderer q clock next now new
renderer_on p q clock frames next ready now old new kept is scene clips tapes inside whole long =
    let was = at_block_of p clock frames next ready old is kept.standing in
    record {
      clips_are = clips ∙ kept.clips_are
          ∙ sym (ap (λ (s : SceneData). clips_of s (files_of q.tapes.items)) scene ∙ ap (clips_of p.scene.value) (laters_files p.tapes.items q.tapes.items tapes));
      standing = subst (λ (o : Option ℕ). IsStanding q clock o now new) (sym is) (record {
        block = λ some. subst (λ (s : SceneData). IsBlock s clock frames) (sym scene) (was.block some);
        end = λ none. was.end none ∙ ap (λ (s : SceneData). s.length) (sym scene);
        inside = inside;
        whole = whole;
      });
      room = long ∙ kept.room;
    }

-- a renderer whose next block was cut off
pub renderer_stepped : (p q : Playback) (clock frames : ℕ) (next : Option ℕ) (ready : Bool) (samples : List ℤ) → IsRenderer p clock next ready samples → next ≡ None
    → q.scene.value ≡ p.scene.value → q.clips.items ≡ p.clips.items → q.tapes.items ≡ p.tapes.items
    → ((xs : List ℤ) → length xs ≡ node_places → IsAtBlock q p.time frames false xs) → IsRenderer q clock (Some frames) ready samples
renderer_stepped p q clock frames next ready samples kept none scene clips tapes standing =
    let was = subst (λ (o : Option ℕ). IsStanding p clock o ready samples) none kept.standing in
    record {
      clips_are = clips ∙ kept.clips_are
          ∙ sym (ap (λ (s : SceneData). clips_of s (files_of q.tapes.items)) scene ∙ ap (λ (ts : List Tape). clips_of p.scene.value (files_of ts)) tapes);
      standing = subst (λ b. IsAtBlock q clock frames b samples) (sym was.not_ready) (subst (λ t. IsAtBlock q t frames false samples) was.time_is (standing samples kept.room));
      room = kept.room;
    }

-- a renderer whose block was given
pub renderer_given : (p : Playback) (clock frames : ℕ) (next : Option ℕ) (ready : Bool) (samples : List ℤ) → IsRenderer p clock next ready samples → next ≡ Some frames → ready ≡ true
    → IsRenderer p (clock + frames) None false samples
renderer_given p clock frames next ready samples kept is whole =
    let at = at_block_of p clock frames next ready samples is kept.standing in
    let time = at.whole whole in
    record {
      clips_are = kept.clips_are;
      standing = record { before = at.inside.before time; time_is = time; not_ready = refl };
      room = kept.room;
    }
