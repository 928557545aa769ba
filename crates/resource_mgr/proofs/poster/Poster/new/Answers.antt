use Rattle.std.proofs.Common.{◌≡◌, ◌++◌, ◌∙◌, map, subst}
use Rattle.std.specs.Prelude.{Some}
use Rattle.resource_mgr.proofs.PageOrder.{pages_to_next}
use Rattle.resource_mgr.specs.PageOrder.{pages_at, pages_of_tape}
use Rattle.resource_mgr.specs.Works.{page_in}
use Rattle.resource_mgr.proofs.poster.Poster.new.Goals as goal

pub loop-page-preserved : goal.loop-page-preserved
loop-page-preserved c =
    let e = c.in_ok-draw_pages.ensures in
    let reels = map pages_of_tape c.args.tapes.now in
    record {
      same = e.same ∙ c.loop-page.invariant.same;
      drawn = e.drawn;
      jobs = pages_to_next c.loop-page.page reels _ _ c.loop-page.invariant.jobs (subst (λ rs. map page_in c.draw_pages.new.jobs.items ≡ map page_in c.loop-page.jobs.items ++ map (λ page. Some page) (pages_at c.loop-page.page rs)) c.loop-page.invariant.same e.jobs);
    }
