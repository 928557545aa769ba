use Rattle.std.proofs.Common.{All, subst}
use Rattle.std.proofs.lemmas.List.Elements.{All-tail}
use Rattle.resource_mgr.specs.Desks.{IsDeskOf}
use Rattle.worker_tests.proofs.threads.fn.work_at_once.scope.Goals as goal

pub loop-desk-preserved : goal.loop-desk-preserved
loop-desk-preserved g c =
    let P = IsDeskOf c.captures.library.now in
    All-tail P _ _ (subst (All P) c.in-Some.ensures.steps.0 c.loop-desk.invariant)
