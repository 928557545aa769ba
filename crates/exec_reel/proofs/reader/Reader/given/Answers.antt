use Rattle.std.proofs.Common.{get_or, None, arith}
use Rattle.std.proofs.lemmas.List.{get_or_default}
use Rattle.exec_reel.proofs.Shelves.{lies_at}
use Rattle.exec_reel.proofs.reader.Reader.given.Goals as goal

pub returns-clause-each : goal.returns-clause-each
returns-clause-each c k below =
    let r = c.args.self.now in
    let pages = r.pages.items in
    let count = r.kept.count in
    rw c.as_slice.ensures.value
    (lies_at r.seat.me.0.clip r.seat.me.0.taken pages r.kept k below (get_or pages k None)
    (get_or_default pages k None (get_or pages k None) (omega (arith, below, count))))
