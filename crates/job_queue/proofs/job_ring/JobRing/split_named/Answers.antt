use Rattle.std.proofs.Common.{◌∙◌}
use Rattle.crossbeam_queue.specs.Passes.{view}
use Rattle.job_queue.proofs.RingSteps.{splits}
use Rattle.job_queue.proofs.job_ring.JobRing.split_named.Goals as goal

pub another-requires-clause-rule : goal.another-requires-clause-rule
another-requires-clause-rule g c =
    let pass = c.args.first.now in
    splits g.row.J.coded.code g.B.NamesTable.table pass.id (view pass) c.requires.role (λ any. c.requires.names any ∙ c.requires.table)
