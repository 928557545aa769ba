use Rattle.std.proofs.Common.{◌≡◌, ◌<◌, ◌∙◌, ◌+◌, length, rules, sym, subst, arith, FitsSigned}
use Rattle.std.specs.Int.{w32}
use Rattle.std.proofs.lemmas.Int.{to_z-of_z}
use Rattle.mix_fixed.specs.Sound.{Is24}
use Rattle.scene_clips.specs.ClipFrames.{clip_length, clip_sample}
use Rattle.scene_clips.specs.Walked.{IsWalkOf}
use Rattle.scene_clips.proofs.Walked.{walked, pointed, single_more}
use Rattle.scene_clips.proofs.paged_clip.PagedClip.singles.Goals as goal

pub loop-k-preserved : goal.loop-k-preserved
loop-k-preserved c =
    let s = c.args.self.now in
    let k = c.loop-k.k in
    let from = c.args.from in
    let below : from + k < clip_length s.bytes s.rate = omega (arith, c.requires.frames) in
    let inside : k < length c.loop-k.out = omega arith in
    let point_is = pointed s (from + k) c.loop-k.walker c.in-Some.point c.loop-k.invariant.walk below (sym c.next.ensures.point ∙ c.in-Some.is) in
    let on : from + k + 1 ≡ from + (k + 1) = omega arith in
    let fits : FitsSigned w32 c.sample_at.result = search rules in
    rw (to_z-of_z w32 c.sample_at.result fits) (record {
      walk = subst (λ n. IsWalkOf s n c.next.new.self) on (walked s (from + k) c.loop-k.walker c.next.new.self c.loop-k.invariant.walk below c.next.ensures.stands);
      values = single_more (λ n v. v ≡ clip_sample s.bytes s.rate s.channels n 0) from k c.loop-k.out c.sample_at.result inside
          (c.sample_at.ensures.value (from + k) point_is) c.loop-k.invariant.values;
      samples = single_more (λ n v. Is24 v) from k c.loop-k.out c.sample_at.result inside c.sample_at.ensures.range c.loop-k.invariant.samples;
    })
