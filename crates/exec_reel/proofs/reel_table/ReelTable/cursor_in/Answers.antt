use Rattle.std.proofs.Common.{◌∙◌, ◌+◌, ◌∷◌, sym, ap, subst}
use Rattle.atomic_table.specs.Table.{rest}
use Rattle.exec_reel.specs.ClipPages.{ComesTo}
use Rattle.exec_reel.specs.declared.cell.Cell.TheVariants.{Decoder}
use Rattle.exec_reel.proofs.reel_table.ReelTable.cursor_in.Goals as goal

pub return_cursor-requires-clause-cursor : goal.return_cursor-requires-clause-cursor
return_cursor-requires-clause-cursor c =
    let seat = c.args.ticket.now in
    let same = c.exchange.ensures.new in
    let out = ap (λ m. m.1) same in (
      c.args.cursor,
      subst (λ v. ComesTo v.clip (v.number + 1) c.args.cursor) (sym (ap (λ m. m.0) same)) c.requires.cursor,
      out ∙ ap (λ l. (c.args.self.now.pages, Decoder c.args.cursor) ∷ l) (sym (ap rest out)),
    )
