use Rattle.std.proofs.Common.{◌≡◌, All, map}
use Rattle.std.specs.Prelude.{Some}
use Rattle.std.specs.List.{flat_map, range_with_len}
use Rattle.resource_mgr.specs.PageOrder.{IsDrawnTo, pages_at, pages_of_source, pages_of_tape}
use Rattle.resource_mgr.specs.Works.{page_in}
use Rattle.resource_mgr.proofs.poster.Poster.new.Given as goal

abbrev pub invariant-loop-page : goal.invariant-loop-page
invariant-loop-page l = record {
  same : map pages_of_source l.sources ≡ map pages_of_tape l.tapes;
  drawn : All (IsDrawnTo l.page) l.sources;
  jobs : map page_in l.jobs.items ≡ map (λ page. Some page) (flat_map (λ k. pages_at k (map pages_of_tape l.tapes)) (range_with_len 0 l.page));
}
