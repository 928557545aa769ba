use Rattle.std.proofs.Common.{ℕ, Option, None, Some}
use Rattle.std.specs.Prelude.{IfSome, IsSome}
use Rattle.resource_mgr.proofs.Tapes.{laters_shown}
use Rattle.engine.specs.RendererData.{IsNeedOf}
use Rattle.engine.proofs.Needed.{no_need}
use Rattle.engine.proofs.page_source.AllShownPageSource.make_ready.Goals as goal

needed_for : (o : Option ℕ) (P : ℕ → Type 0) → IsSome o → IfSome o P → (n : ℕ) × P n
needed_for None P some is = absurd (cc)
needed_for (Some n) P some is = (n, is)

pub unreachable-requires : goal.unreachable-requires
unreachable-requires c =
    let r = c.args.renderer.now in
    let q = c.ready.new.self in
    let need = needed_for r.next (λ frames. IsNeedOf r q frames c.in-Err.field-0) c.requires.next c.in-Err.ensures.need in
    no_need r q need.0 c.in-Err.field-0 c.requires.shows c.in-Err.ensures.tapes need.1

pub returns-clause-shows : goal.returns-clause-shows
returns-clause-shows c = laters_shown c.args.renderer.now.tapes c.ready.new.self.tapes c.ready.ensures.tapes c.requires.shows
