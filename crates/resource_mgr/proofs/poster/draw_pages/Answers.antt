use Rattle.std.proofs.Common.{Global, ◌≡◌, ◌<◌, ◌+◌, ◌≤◌, ◌∙◌, ap, get_or, length, map, sym, subst, arith}
use Rattle.std.proofs.Math.Seq.{map-set_same}
use Rattle.std.proofs.lemmas.List.{get_or-map, length-map}
use Rattle.std.proofs.lemmas.List.Elements.{AllWithin-more_set}
use Rattle.exec_reel.specs.ClipPages.{page_total}
use Rattle.exec_reel.specs.Reels.{clip_of, id_of}
use Rattle.exec_reel.specs.declared.reel.Reel.{Reel}
use Rattle.resource_mgr.proofs.PageOrder.{drawn_next, draws_it, draws_none, jobs_with, jobs_without, left_still}
use Rattle.resource_mgr.specs.PageOrder.{IsDrawnTo, pages_of_source}
use Rattle.resource_mgr.specs.Works.{page_in}
use Rattle.std.specs.declared.collections.VecDeque.{VecDeque}
use Rattle.resource_mgr.specs.declared.work.Work.{Work}
use Rattle.resource_mgr.proofs.poster.draw_pages.Goals as goal
use Rattle.resource_mgr.proofs.poster.draw_pages.Goals.{in-Some+in_ok-push_back, in_default}

pub loop-resource-preserved : goal.loop-resource-preserved
loop-resource-preserved c =
    let sources = c.loop-resource.sources in
    let i = c.loop-resource.resource in
    let k = c.args.page in
    let d = c.index-sources-resource.result in
    let old = get_or sources i d in
    let new = c.draw.new.self in
    let reels = map pages_of_source c.args.sources.now in
    let base = map page_in c.args.jobs.now.items in
    let inside : i < length sources = omega (arith, c.loop-resource-test.true, c.loop-resource.auto.sources) in
    let least : i ≤ i = omega arith in
    let here : IsDrawnTo k old = c.loop-resource.invariant.left i d least inside in
    let reel : pages_of_source new ≡ pages_of_source old = ap (λ (r : Reel). record { reel = id_of r; pages = page_total (clip_of r) }) c.draw.ensures.reel in
    let same = c.loop-resource.invariant.same in
    let there : i < length reels = subst (λ rs. i < length rs) same (subst (λ n. i < n) (sym (length-map sources pages_of_source)) inside) in
    let at : get_or reels i (pages_of_source old) ≡ pages_of_source old =
    ap (λ rs. get_or rs i (pages_of_source old)) (sym same) ∙ get_or-map pages_of_source sources i d (pages_of_source old) inside in
    record {
      same = map-set_same pages_of_source sources i new d reel ∙ same;
      drawn = AllWithin-more_set sources i new inside (IsDrawnTo (k + 1)) c.loop-resource.invariant.drawn (drawn_next k old new here c.draw.ensures.reel c.draw.result c.draw.ensures.drawn);
      left = left_still k i sources new c.loop-resource.invariant.left;
      jobs = elim c.match-draw.branch [
        | in-Some+in_ok-push_back w ↦
            let drew = draws_it k old new here c.draw.ensures.reel w.in-Some.ticket w.in-Some.ensures.drawn in
            jobs_with k i reels (pages_of_source old) there at base c.loop-resource.jobs.items c.match-draw.jobs.items w.in-Some.ticket c.loop-resource.invariant.jobs (ap (λ (q : VecDeque Work Global). q.items) w.jobs-is ∙ w.in_ok-push_back.ensures.items) drew.0 drew.1 w.in-Some.ensures.drawn.reel
        | in_default w ↦
            jobs_without k i reels (pages_of_source old) there at base c.loop-resource.jobs.items c.match-draw.jobs.items c.loop-resource.invariant.jobs (ap (λ (q : VecDeque Work Global). q.items) w.jobs-is) (draws_none k old new here c.draw.ensures.reel w.in_default.ensures.drawn)
      ];
    }
