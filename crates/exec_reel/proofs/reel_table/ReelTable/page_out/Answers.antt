use Rattle.std.proofs.Common.{◌∙◌, ◌∷◌, sym, ap}
use Rattle.atomic_table.specs.Table.{rest}
use Rattle.exec_reel.specs.ClipPages.{empty_page}
use Rattle.exec_reel.specs.declared.cell.Cell.TheVariants.{Page}
use Rattle.exec_reel.proofs.reel_table.ReelTable.page_out.Goals as goal

pub exchange-cell-requires-clause-has : goal.exchange-cell-requires-clause-has
exchange-cell-requires-clause-has c =
    let cell = Page (empty_page c.args.ticket.now.me.0.clip) in
    let out = ap (λ m. m.1) c.take_page.ensures.me ∙ ap (λ n. (n, cell) ∷ c.args.ticket.now.me.1) (sym c.requires.number) in
    (cell, out ∙ ap (λ l. (c.args.number, cell) ∷ l) (sym (ap rest out)))
