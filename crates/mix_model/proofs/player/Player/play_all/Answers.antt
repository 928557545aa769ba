use Rattle.std.proofs.Common.{arith, ap, refl, sym, append-nil, ◌∙◌, ◌++◌, List}
use Rattle.clip_decode.specs.Frames.{interleaved}
use Rattle.scene_clips.specs.SceneClipData.{SceneClipData}
use Rattle.mix_model.specs.Mix.{frame_state}
use Rattle.mix_model.specs.Signals.{frame}
use Rattle.mix_model.proofs.Frames.{frames_more}
use Rattle.mix_model.proofs.player.Player.play_all.Goals as goal

pub loop-init : goal.loop-init
unfolding interleaved
loop-init c = record {
  before = c.requires.before;
  time = omega arith;
  clips = refl;
  samples = sym (append-nil c.args.samples.now.items);
}

pub loop-preserved : goal.loop-preserved
loop-preserved c =
    let now = c.loop.invariant in
    let next = c.in_ok-play.ensures.next in
    let s = c.args.scene.now in
    record {
      before = c.in_ok-play.ensures.before;
      time = omega arith;
      clips = next.1 ∙ now.clips;
      samples = frames_more c.args.self.now.clips.items s c.args.self.now.time c.loop.counter c.loop.self.time c.args.samples.now.items c.loop.samples.items c.play.new.samples.items now.time now.samples (c.in_ok-play.ensures.samples ∙ ap (λ (cs : List SceneClipData). c.loop.samples.items ++ frame (frame_state cs s c.loop.self.time) s.channels) now.clips);
    }
