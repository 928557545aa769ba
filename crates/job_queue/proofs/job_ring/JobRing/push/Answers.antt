use Rattle.std.proofs.Common.{refl}
use Rattle.crossbeam_queue.specs.Passes.{view, ruled_capacity}
use Rattle.job_queue.specs.Rule.{tag_data}
use Rattle.job_queue.proofs.RingSteps.{pushes, looks}
use Rattle.job_queue.proofs.job_ring.JobRing.push.Goals as goal

pub push_as-requires-clause-rule : goal.push_as-requires-clause-rule
push_as-requires-clause-rule g c =
    let id = c.args.pass.now.id in let v = view c.args.pass.now in let t = c.args.tag in let full = c.requires.full in (
      pushes g.row.J.coded.code id v c.requires.role (ruled_capacity c.args.self.now.ring) t record { job = full.0; tag = tag_data t } c.requires.tag (refl, full.1),
      looks g.row.J.coded.code id v c.requires.role,
    )
