use Rattle.exec_reel.specs.ReaderPages.{AreNone}
use Rattle.exec_reel.proofs.reader.no_pages.Given as goal

abbrev pub invariant-loop : goal.invariant-loop
invariant-loop l = AreNone l.counter l.pages.items
