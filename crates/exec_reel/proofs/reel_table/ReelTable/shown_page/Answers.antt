use Rattle.std.proofs.Common.{◌∙◌, ◌∷◌, sym, ap}
use Rattle.atomic_table.specs.Table.{rest}
use Rattle.exec_reel.specs.ClipPages.{page_of}
use Rattle.exec_reel.specs.declared.cell.Cell.TheVariants.{Page}
use Rattle.exec_reel.proofs.reel_table.ReelTable.shown_page.Goals as goal

pub exchange-cell-requires-clause-has : goal.exchange-cell-requires-clause-has
exchange-cell-requires-clause-has c =
    let cell = Page (page_of c.args.reader.now.me.0.clip c.args.page) in
    let out = ap (λ m. m.1) c.take_shown.ensures.me in
    (cell, out ∙ ap (λ l. (c.args.page, cell) ∷ l) (sym (ap rest out)))
