use Rattle.std.proofs.Common.{◌≡◌, ◌<◌, ◌∙◌, ◌+◌, sym, subst, arith}
use Rattle.mix_fixed.specs.Sound.{Is24}
use Rattle.scene_clips.specs.ClipFrames.{clip_length, clip_sample}
use Rattle.scene_clips.specs.Walked.{IsWalkOf}
use Rattle.scene_clips.proofs.Walked.{walked, pointed, pair_more}
use Rattle.scene_clips.proofs.paged_clip.PagedClip.pairs.Goals as goal

pub loop-k-preserved : goal.loop-k-preserved
loop-k-preserved c =
    let s = c.args.self.now in
    let k = c.loop-k.k in
    let from = c.args.from in
    let below : from + k < clip_length s.bytes s.rate = omega (arith, c.requires.frames) in
    let point_is = pointed s (from + k) c.loop-k.walker c.in-Some.point c.loop-k.invariant.walk below (sym c.next.ensures.point ∙ c.in-Some.is) in
    let on : from + k + 1 ≡ from + (k + 1) = omega arith in
    record {
      walk = subst (λ n. IsWalkOf s n c.next.new.self) on (walked s (from + k) c.loop-k.walker c.next.new.self c.loop-k.invariant.walk below c.next.ensures.stands);
      values = pair_more (λ n channel v. v ≡ clip_sample s.bytes s.rate s.channels n channel) from k c.loop-k.out c.put_pair.new.out c.put_pair.ensures.before
          (c.put_pair.ensures.left ∙ c.pair_at.ensures.left (from + k) point_is)
          (c.put_pair.ensures.right ∙ c.pair_at.ensures.right (from + k) point_is)
          c.loop-k.invariant.values;
      samples = pair_more (λ n channel v. Is24 v) from k c.loop-k.out c.put_pair.new.out c.put_pair.ensures.before
          (rw c.put_pair.ensures.left c.pair_at.ensures.left_range)
          (rw c.put_pair.ensures.right c.pair_at.ensures.right_range)
          c.loop-k.invariant.samples;
    }
