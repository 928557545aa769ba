use Rattle.crossbeam_queue.specs.Passes.{view}
use Rattle.job_queue.proofs.RingSteps.{pops, looks}
use Rattle.job_queue.proofs.job_ring.JobRing.pop.Goals as goal

pub pop_as-requires-clause-rule : goal.pop_as-requires-clause-rule
pop_as-requires-clause-rule g c =
    let id = c.args.pass.now.id in let v = view c.args.pass.now in
    (pops g.row.J.coded.code id v c.requires.role, looks g.row.J.coded.code id v c.requires.role)
