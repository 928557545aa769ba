use Rattle.std.proofs.Common.{◌+◌, List, Option, sym, subst}
use Rattle.clip_decode.specs.Pages.{PageData}
use Rattle.exec_reel.specs.ReaderPages.{AreNone}
use Rattle.exec_reel.proofs.Shelves.{one_more_none}
use Rattle.exec_reel.proofs.reader.no_pages.Goals as goal

pub loop-preserved : goal.loop-preserved
loop-preserved c = subst (λ (pages : List (Option PageData)). AreNone (c.loop.counter + 1) pages) (sym c.in_ok-push.ensures.items) (one_more_none c.loop.counter c.loop.pages.items c.loop.invariant)
