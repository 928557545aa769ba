use Rattle.std.proofs.Common.{◌≡◌, ◌∙◌, ◌+◌, ◌*◌, ap, subst, arith}
use Rattle.mix_fixed.specs.Kernels.{at}
use Rattle.scene_clips.specs.SceneClipData.{SceneClipData}
use Rattle.engine.specs.Cached.{IsCached}
use Rattle.engine.proofs.CachedRuns.{cached_cell}
use Rattle.engine.proofs.cached_clip.CachedClip.run.Goals as goal

pub returns-clause-values : goal.returns-clause-values
returns-clause-values c = λ j below.
    let d = c.args.self.now in
    let kept = c.keep_to.new.self in
    let width = c.from-channels.result in
    let same : width ≡ d.channels = c.from-channels.ensures ∙ c.channels.ensures.value ∙ ap (λ (k : SceneClipData). k.channels) c.self.view_is in
    let is : IsCached d kept = subst (λ (k : SceneClipData). IsCached k kept) c.self.view_is c.in_ok-keep_to.ensures.kept in
    let wide : c.args.count * width ≡ c.args.count * d.channels = ap (λ k. c.args.count * k) same in
    c.copy.ensures.values j (omega (arith, below, wide))
    ∙ ap (λ k. at kept.cells.items (c.args.from * k + j)) same
    ∙ cached_cell d kept c.args.from c.args.count j is (omega (arith, c.in_ok-keep_to.ensures.enough)) below
