-- What was copied, page by page.
use Rattle.std.proofs.Common.{◌≡◌, ◌∙◌}
use Rattle.mix_fixed.specs.Sound.{Is24}
use Rattle.scene_clips.specs.ClipFrames.{clip_sample}
use Rattle.scene_clips.proofs.Copies.{samples_more}
use Rattle.scene_clips.proofs.paged_clip.PagedClip.copies.Goals as goal

pub loop-done-preserved : goal.loop-done-preserved
loop-done-preserved c =
    let s = c.args.self.now in
    let did = c.copy_next-done.ensures in
    let now = c.loop-done.invariant in
    record {
      within = did.most;
      room = c.copy_next-done.auto.out ∙ now.room;
      values = samples_more (λ n channel v. v ≡ clip_sample s.bytes s.rate s.channels n channel) c.args.from s.channels c.loop-done.done c.copy_next-done.result c.loop-done.out c.copy_next-done.new.out
          did.before did.values now.values;
      samples = samples_more (λ n channel v. Is24 v) c.args.from s.channels c.loop-done.done c.copy_next-done.result c.loop-done.out c.copy_next-done.new.out did.before did.samples now.samples;
    }
