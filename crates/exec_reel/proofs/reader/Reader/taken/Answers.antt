use Rattle.std.proofs.Common.{sym, ◌∙◌, true≢false}
use Rattle.exec_reel.proofs.Shelves.{is_taken, isn't_taken}
use Rattle.exec_reel.proofs.reader.Reader.taken.Goals as goal

pub unreachable-requires : goal.unreachable-requires
unreachable-requires c =
    let r = c.args.self.now in
    true≢false (sym c.requires.among ∙ isn't_taken r.seat.me.0.clip r.seat.me.0.taken r.pages.items r.kept c.args.k c.requires.below c.index.result.now c.index.ensures c.in-None.is)

pub returns : goal.returns
returns c =
    let r = c.args.self.now in
    (is_taken r.seat.me.0.clip r.seat.me.0.taken r.pages.items r.kept c.args.k c.requires.below c.index.result.now c.in-Some.page c.index.ensures c.in-Some.is).1
