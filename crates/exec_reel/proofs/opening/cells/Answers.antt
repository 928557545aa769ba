use Rattle.std.proofs.Common.{◌+◌, List, sym, subst, arith}
use Rattle.exec_reel.specs.Cells.{ArePages, AreCells}
use Rattle.exec_reel.specs.declared.cell.Cell.{Cell}
use Rattle.exec_reel.proofs.CellLists.{pages_more, all_cells}
use Rattle.exec_reel.proofs.opening.cells.Goals as goal

pub loop-k-preserved : goal.loop-k-preserved
loop-k-preserved c =
    let l = c.loop-k in
    let clip = c.args.clip.now in (
      c.in_ok-page.ensures.comes,
      subst (λ (cells : List Cell). ArePages clip c.args.filled (l.k + 1) cells) (sym c.in_ok-push.ensures.items)
          (pages_more clip c.args.filled l.k l.cells.items l.invariant.1 c.in_ok-page.page c.in_ok-page.ensures.page),
    )

pub returns : goal.returns
returns c =
    let l = c.loop-k in
    let clip = c.args.clip.now in
    let end = l.auto.k-end in
    let out = c.loop-k-test.false in
    let count = c.requires.count in
    let filled = c.requires.filled in
    subst (λ (cells : List Cell). AreCells clip c.args.filled cells) (sym c.in_ok-push-2.ensures.items)
    (all_cells clip c.args.filled l.k l.cells.items l.invariant.1 l.cursor (omega arith) (omega arith) l.invariant.0)
