use Rattle.std.proofs.Common.{◌≡◌, ◌+◌, ℕ, List, Option, length, sym, ◌∙◌, ap, subst, arith}
use Rattle.std.specs.Prelude.{IfSome}
use Rattle.std.specs.Vec.{with_items}
use Rattle.std.proofs.lemmas.List.{with_items_is}
use Rattle.std.proofs.lemmas.Result.{err_from_is_err_and}
use Rattle.scene_clips.specs.SceneClipData.{SceneClipData}
use Rattle.resource_mgr.proofs.Tapes.{laters_refl}
use Rattle.engine.specs.Needs.{ReadsPage}
use Rattle.engine.specs.Playing.{IsInBlock}
use Rattle.engine.specs.RendererData.{IsNeedOf, RendererData}
use Rattle.engine.proofs.Rendered.{at_block_of, renderer_on}
use Rattle.engine.proofs.renderer.Renderer.ready.Goals as goal

pub render_block-requires : goal.render_block-requires
render_block-requires c =
    let r = c.self.inside in
    record {
      standing = subst (IsInBlock r.playback r.clock (r.clock + c.in-Some.frames)) (sym c.as_mut_slice-samples.ensures.value)
          (at_block_of r.playback r.clock c.in-Some.frames r.next r.ready r.samples.items c.in-Some.is c.self.invariant.standing).inside;
    }

pub invariant_of-self : goal.invariant_of-self
invariant_of-self c =
    let r = c.self.inside in
    let q = c.render_block.new.self in
    let out = c.render_block.new.out in
    let did = c.in_err-render_block.ensures in
    let items : (with_items r.samples out).items ≡ out = with_items_is r.samples out (omega (arith, c.render_block.auto.out, c.as_mut_slice-samples.ensures.len)) in
    let long : length (with_items r.samples out).items ≡ length r.samples.items = ap length items ∙ c.render_block.auto.out ∙ ap length c.as_mut_slice-samples.ensures.value in
    let not_ready = c.if-self.false in
    renderer_on r.playback q r.clock c.in-Some.frames r.next r.ready r.ready r.samples.items (with_items r.samples out).items c.self.invariant c.in-Some.is did.scene did.clips did.tapes
    (subst (IsInBlock q r.clock (r.clock + c.in-Some.frames)) (sym items) did.standing) (λ is. absurd (cc)) long

pub returns-in_err-render_block-clause-need : goal.returns-in_err-render_block-clause-need
returns-in_err-render_block-clause-need c =
    let r = c.self.inside in
    let p = r.playback in
    let need = c.in_err-render_block.field-0.0 in
    let did = c.in_err-render_block.ensures.need in
    let q = c.render_block.new.self in
    let left : RendererData = record { scene = q.scene.value; tapes = q.tapes.items; clock = r.clock; next = r.next; ready = r.ready } in
    let e = err_from_is_err_and c.from_residual.result c.from_residual.ensures.1 in
    rw (e.1, e.2)
    (subst (λ (x : RendererData). IfSome x.next (λ n. IsNeedOf x left n need)) c.self.view_is
    (subst (λ (o : Option ℕ). IfSome o (λ n. IsNeedOf (record { scene = p.scene.value; tapes = p.tapes.items; clock = r.clock; next = r.next; ready = r.ready }) left n need)) (sym c.in-Some.is)
    (record {
      reads = subst (λ (cs : List SceneClipData). ReadsPage cs p.scene.value r.clock (r.clock + c.in-Some.frames) need.resource need.page) c.self.invariant.clips_are did.0;
      tape = did.1;
    })))

pub returns-then-self-clause-tapes : goal.returns-then-self-clause-tapes
returns-then-self-clause-tapes c = laters_refl c.args.self.now.tapes
