use Rattle.std.proofs.Common.{◌≡◌, ◌*◌, ℕ, true, List, Option, pos, length, sym, ◌∙◌, ap, subst, arith}
use Rattle.std.specs.Prelude.{IfSome, IsSomeAnd}
use Rattle.std.proofs.lemmas.List.{get_or-take}
use Rattle.clip_decode.specs.Frames.{interleaved}
use Rattle.mix_fixed.specs.Kernels.{at}
use Rattle.scene_clips.specs.SceneClipData.{SceneClipData}
use Rattle.mix_model.specs.Mix.{clips_of, frames_from}
use Rattle.resource_mgr.specs.Tapes.{files_of}
use Rattle.engine.specs.RendererData.{RendererData, clips_heard}
use Rattle.engine.proofs.Rendered.{at_block_of, block_given, renderer_given}
use Rattle.engine.proofs.renderer.Renderer.block.Goals as goal

pub invariant_of-self : goal.invariant_of-self
invariant_of-self c =
    let r = c.self.inside in
    renderer_given r.playback r.clock c.in-Some.frames r.next r.ready r.samples.items c.self.invariant c.in-Some.is (rw (← c.self.view_is) at c.requires.ready)

pub returns-clause-samples : goal.returns-clause-samples
returns-clause-samples c =
    let r = c.self.inside in
    let p = r.playback in
    let s = p.scene.value in
    let frames = c.in-Some.frames in
    let out = c.copy_from_slice.new.self in
    let ready : r.ready ≡ true = rw (← c.self.view_is) at c.requires.ready in
    let block = at_block_of p r.clock frames r.next r.ready r.samples.items c.in-Some.is c.self.invariant.standing in
    let room : IsSomeAnd r.next (λ n. length c.args.out.now ≡ n * s.channels) = rw (← c.self.view_is) at c.requires.room in
    let long : length c.args.out.now ≡ frames * s.channels = subst (λ (o : Option ℕ). IsSomeAnd o (λ n. length c.args.out.now ≡ n * s.channels)) c.in-Some.is room in
    let here : out ≡ interleaved (frames_from p.clips.items s r.clock frames) =
    block_given p r.clock frames r.samples.items out block.inside (block.whole ready) (c.copy_from_slice.ensures.len ∙ long)
    (λ j below.
    ap (λ xs. at xs j) c.copy_from_slice.ensures.after
    ∙ get_or-take (length c.args.out.now) c.as_slice.result.now j (pos 0) (omega (arith, below, c.copy_from_slice.ensures.len))
    ∙ ap (λ xs. at xs j) c.as_slice.ensures.value) in
    let heard : out ≡ interleaved (frames_from (clips_of s (files_of p.tapes.items)) s r.clock frames) =
    here ∙ ap (λ (cs : List SceneClipData). interleaved (frames_from cs s r.clock frames)) c.self.invariant.clips_are in
    subst (λ (x : RendererData). IfSome x.next (λ n. out ≡ interleaved (frames_from (clips_heard x) x.scene x.clock n))) c.self.view_is
    (subst (λ (o : Option ℕ). IfSome o (λ n. out ≡ interleaved (frames_from (clips_of s (files_of p.tapes.items)) s r.clock n))) (sym c.in-Some.is) heard)
