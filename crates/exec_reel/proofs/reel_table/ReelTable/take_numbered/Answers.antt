use Rattle.std.proofs.Common.{subst, arith}
use mathlib.Core.Option.{none}
use Rattle.atomic_table.specs.Table.{step, Allows}
use Rattle.exec_reel.specs.Rule.{is_among, Kept}
use Rattle.exec_reel.specs.Steps.{ReaderTook}
use Rattle.exec_reel.proofs.Among.{not_among}
use Rattle.exec_reel.proofs.AtTable.{at_table}
use Rattle.exec_reel.proofs.ReaderSteps.{reader_takes}
use Rattle.exec_reel.proofs.reel_table.ReelTable.take_numbered.Goals as goal

pub load-requires : goal.load-requires
load-requires g c =
    let t = c.args.self.now in
    let seat = c.args.reader.now in
    let page = c.args.page in
    at_table t seat.table_id seat.id seat.me 1 (λ n. n) (λ slots. ReaderTook g.B.PageNumber.number (step slots 1 0 0 none) seat.me) c.requires.at.0 (omega arith)
    (λ slots. subst (λ j. Allows (Kept t.opening) slots seat.id seat.me 1 (λ n. n) (ReaderTook j (step slots 1 0 0 none) seat.me)) c.requires.number
    (reader_takes t.opening slots seat.id page seat.me c.requires.role c.requires.shown (not_among (is_among page seat.me.0.taken) c.requires.home)))
