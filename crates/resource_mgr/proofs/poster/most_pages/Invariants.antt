use Rattle.std.proofs.Common.{◌≡◌, map, take}
use Rattle.resource_mgr.specs.PageOrder.{most_pages, pages_of_tape}
use Rattle.resource_mgr.proofs.poster.most_pages.Given as goal

abbrev pub invariant-loop-tape : goal.invariant-loop-tape
invariant-loop-tape l = l.most ≡ most_pages (take l.tape-index (map pages_of_tape l.tapes))
