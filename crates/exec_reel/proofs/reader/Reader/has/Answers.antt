use Rattle.std.proofs.Common.{◌∙◌}
use Rattle.exec_reel.proofs.Shelves.{is_there}
use Rattle.exec_reel.proofs.reader.Reader.has.Goals as goal

pub returns : goal.returns
returns c =
    let r = c.args.self.now in
    c.is_some.ensures ∙ is_there r.seat.me.0.clip r.seat.me.0.taken r.pages.items r.kept c.args.k c.requires c.index.result.now c.index.ensures
