-- No frame is before the first block.
use Rattle.std.proofs.Common.{◌∙◌, ap, sym}
use Rattle.clip_decode.specs.Frames.{interleaved}
use Rattle.mix_model.specs.Mix.{frames_from}
use Rattle.mix_model.specs.Rendering.{summary_of}
use Rattle.mix_model.proofs.blocks.Blocks.new.Goals as goal

pub returns-clause-rendered : goal.returns-clause-rendered
unfolding interleaved
returns-clause-rendered c =
    let s = c.args.scene.now in
    record {
      before = c.in_ok-player.ensures.before;
      summary_is = c.empty.ensures ∙ ap (λ t. summary_of s (frames_from c.in_ok-player.player.clips.items s 0 t)) (sym c.in_ok-player.ensures.start);
    }
