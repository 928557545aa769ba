use Rattle.std.proofs.Common.{sym, ap, ◌∙◌, ◌≡◌, ◌++◌, ℕ, ℤ, List}
use Rattle.scene_clips.specs.SceneClipData.{SceneClipData}
use Rattle.scene_model.specs.SceneData.{SceneData}
use Rattle.wave_write.specs.Samples.{packed}
use Rattle.mix_model.specs.Mix.{frames_from}
use Rattle.clip_decode.specs.Frames.{interleaved}
use Rattle.mix_model.specs.Rendering.{data_of, summary_of, frames_before}
use Rattle.mix_model.specs.Summary.{summary}
use Rattle.mix_model.proofs.Written.{samples-join, data-join, samples_24}
use Rattle.mix_model.proofs.blocks.Blocks.next.Goals as goal

pub pack-requires-clause-samples : goal.pack-requires-clause-samples
pack-requires-clause-samples c =
    let s = c.args.scene.now in
    let p = c.args.self.now.player in
    let samples = c.in_ok-play_all.ensures.samples ∙ ap (λ (xs : List ℤ). xs ++ interleaved (frames_from p.clips.items s p.time c.min-count.result)) c.clear.ensures.items in
    rw (c.as_slice.ensures.value, samples) (samples_24 p.clips.items s p.time c.min-count.result)

pub returns-clause-rendered : goal.returns-clause-rendered
returns-clause-rendered c =
    let s = c.args.scene.now in
    let p = c.args.self.now.player in
    let count = c.min-count.result in
    let next = c.in_ok-play_all.ensures.next in
    let q = c.play_all.new.self in
    let samples = c.in_ok-play_all.ensures.samples ∙ ap (λ (xs : List ℤ). xs ++ interleaved (frames_from p.clips.items s p.time count)) c.clear.ensures.items in
    let written : c.pack.new.out.items ≡ c.clear-2.new.self.items ++ packed c.scene.inside.width c.as_slice.result.now = c.in_ok-pack.ensures.ok in
    let wide : packed c.scene.inside.width c.as_slice.result.now ≡ packed s.width c.as_slice.result.now = ap (λ (q : SceneData). packed q.width c.as_slice.result.now) c.scene.view_is in
    let bytes = written ∙ ap (λ (xs : List ℕ). c.clear-2.new.self.items ++ xs) wide ∙ ap (λ (xs : List ℕ). xs ++ packed s.width c.as_slice.result.now) c.clear-2.ensures.items ∙ ap (packed s.width) (c.as_slice.ensures.value ∙ samples) in
    let same = ap (λ (cs : List SceneClipData). summary_of s (frames_from cs s 0 q.time)) next.1 in
    record {
      before = c.in_ok-play_all.ensures.before;
      summary_is =
          c.extended-self.ensures (interleaved (frames_before s c.args.self.now)) (data_of s (frames_before s c.args.self.now)) c.requires.rendered.summary_is
          ∙ ap (λ xs. summary (interleaved (frames_before s c.args.self.now) ++ xs) (data_of s (frames_before s c.args.self.now) ++ c.as_slice-3.result.now)) (c.as_slice-2.ensures.value ∙ samples)
          ∙ ap (λ xs. summary (interleaved (frames_before s c.args.self.now) ++ interleaved (frames_from p.clips.items s p.time count)) (data_of s (frames_before s c.args.self.now) ++ xs)) (c.as_slice-3.ensures.value ∙ bytes)
          ∙ ap (λ xs. summary xs (data_of s (frames_before s c.args.self.now) ++ data_of s (frames_from p.clips.items s p.time count))) (sym (samples-join p.clips.items s p.time count q.time next.0))
          ∙ ap (λ xs. summary (interleaved (frames_from p.clips.items s 0 q.time)) xs) (sym (data-join p.clips.items s p.time count q.time next.0))
          ∙ sym same;
    }

pub returns-clause-bytes : goal.returns-clause-bytes
returns-clause-bytes c =
    let s = c.args.scene.now in
    let p = c.args.self.now.player in
    let count = c.min-count.result in
    let next = c.in_ok-play_all.ensures.next in
    let q = c.play_all.new.self in
    let samples = c.in_ok-play_all.ensures.samples ∙ ap (λ (xs : List ℤ). xs ++ interleaved (frames_from p.clips.items s p.time count)) c.clear.ensures.items in
    let written : c.pack.new.out.items ≡ c.clear-2.new.self.items ++ packed c.scene.inside.width c.as_slice.result.now = c.in_ok-pack.ensures.ok in
    let wide : packed c.scene.inside.width c.as_slice.result.now ≡ packed s.width c.as_slice.result.now = ap (λ (q : SceneData). packed q.width c.as_slice.result.now) c.scene.view_is in
    let bytes = written ∙ ap (λ (xs : List ℕ). c.clear-2.new.self.items ++ xs) wide ∙ ap (λ (xs : List ℕ). xs ++ packed s.width c.as_slice.result.now) c.clear-2.ensures.items ∙ ap (packed s.width) (c.as_slice.ensures.value ∙ samples) in
    ap (λ (cs : List SceneClipData). data_of s (frames_from cs s 0 q.time)) next.1
    ∙ data-join p.clips.items s p.time count q.time next.0
    ∙ ap (λ xs. data_of s (frames_before s c.args.self.now) ++ xs) (sym bytes)
