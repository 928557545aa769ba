use Rattle.resource_mgr.proofs.Desks.{kept_back}
use Rattle.resource_mgr.proofs.library.Library.put_back.Goals as goal

pub returns-in-Err : goal.returns-in-Err
returns-in-Err g c =
    let e = c.in-Err.ensures in
    kept_back _ c.args.self.now c.args.desk.now c.post_again.new.seat c.args.tag c.in-Err.tag c.args.work c.in-Err.work c.requires e.seat e.took e.slots e.same e.back e.full
