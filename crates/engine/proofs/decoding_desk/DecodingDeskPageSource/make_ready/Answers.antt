-- The renderer is asked until all pages are shown.
use Rattle.std.proofs.Common.{◌≡◌, ◌∙◌, false, Result, Ok, Err, refl, sym, ap, subst}
use Rattle.std.specs.Prelude.{OnErr}
use Rattle.std.specs.Result.{is_ok}
use Rattle.resource_mgr.specs.Tapes.{AreLater}
use Rattle.resource_mgr.proofs.Tapes.{laters_refl, laters_trans}
use Rattle.engine.specs.RendererData.{RendererData}
use Rattle.engine.proofs.decoding_desk.DecodingDeskPageSource.make_ready.Goals as goal
use Rattle.engine.proofs.decoding_desk.DecodingDeskPageSource.make_ready.Goals.{in-None, in-Some+then-is_ok}

on_err : {A B : Type 0} (x : Result A B) (P : Type 0) → is_ok x ≡ false → OnErr x P → P
on_err (Ok a) P failed holds = absurd (cc)
on_err (Err b) P failed holds = holds

pub loop-init : goal.loop-init
loop-init g c = record { desk = c.requires.shows; same = refl; tapes = laters_refl c.args.renderer.now.tapes; can_next = tt; finite = tt }

pub loop-preserved : goal.loop-preserved
loop-preserved g c =
    let r = c.loop.renderer in
    let q = c.ready.new.self in
    let now = c.loop.invariant in
    let left : q ≡ record r { tapes = q.tapes } = on_err c.ready.result _ (sym c.is_ok.ensures.value ∙ c.if-is_ok.false) c.ready.ensures.err in
    record {
      desk = c.work_one.ensures;
      same = left ∙ ap (λ (x : RendererData). record x { tapes = q.tapes }) now.same;
      tapes = laters_trans c.args.renderer.now.tapes r.tapes q.tapes now.tapes c.ready.ensures.tapes;
      can_next = tt;
      finite = tt;
    }

pub returns-clause-tapes : goal.returns-clause-tapes
returns-clause-tapes g c =
    let first = c.args.renderer.now.tapes in
    elim c.match-next.branch [
      | in-None w ↦ subst (λ (x : RendererData). AreLater first x.tapes) (sym w.renderer-is) c.loop.invariant.tapes
      | in-Some+then-is_ok w ↦ subst (λ (x : RendererData). AreLater first x.tapes) (sym w.renderer-is) (laters_trans first c.loop.renderer.tapes w.ready.new.self.tapes c.loop.invariant.tapes w.ready.ensures.tapes)
    ]
