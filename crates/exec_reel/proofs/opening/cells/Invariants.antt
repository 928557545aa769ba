use Rattle.exec_reel.specs.Cells.{ComesAfter, ArePages}
use Rattle.exec_reel.proofs.opening.cells.Given as goal

abbrev pub invariant-loop-k : goal.invariant-loop-k
invariant-loop-k l = ComesAfter l.clip l.filled l.k l.cursor × ArePages l.clip l.filled l.k l.cells.items
