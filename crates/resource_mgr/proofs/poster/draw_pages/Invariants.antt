use Rattle.std.proofs.Common.{◌≡◌, ◌+◌, ◌++◌, map, length, take}
use Rattle.std.specs.Prelude.{Some}
use Rattle.std.specs.List.{AllWithin}
use Rattle.resource_mgr.specs.PageOrder.{IsDrawnTo, pages_at, pages_of_source}
use Rattle.resource_mgr.specs.Works.{page_in}
use Rattle.resource_mgr.proofs.poster.draw_pages.Given as goal

abbrev pub invariant-loop-resource : goal.invariant-loop-resource
invariant-loop-resource l = record {
  same : map pages_of_source l.sources ≡ map pages_of_source l.fn.sources;
  drawn : AllWithin (IsDrawnTo (l.page + 1)) l.sources 0 l.resource;
  left : AllWithin (IsDrawnTo l.page) l.sources l.resource (length l.sources);
  jobs : map page_in l.jobs.items ≡ map page_in l.fn.jobs.items ++ map (λ page. Some page) (pages_at l.page (take l.resource (map pages_of_source l.fn.sources)));
}
