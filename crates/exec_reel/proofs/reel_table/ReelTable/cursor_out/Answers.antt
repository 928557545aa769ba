use Rattle.std.proofs.Common.{◌∙◌, ◌∷◌, sym, ap}
use Rattle.atomic_table.specs.Table.{rest}
use Rattle.exec_reel.specs.declared.cell.Cell.TheVariants.{Decoder}
use Rattle.exec_reel.proofs.reel_table.ReelTable.cursor_out.Goals as goal

pub exchange-cell-requires-clause-has : goal.exchange-cell-requires-clause-has
exchange-cell-requires-clause-has c =
    let out = ap (λ m. m.1) c.take_cursor.ensures.me.2 in
    (Decoder c.take_cursor.ensures.me.0, out ∙ ap (λ l. (c.args.self.now.pages, Decoder c.take_cursor.ensures.me.0) ∷ l) (sym (ap rest out)))
