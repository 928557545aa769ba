use Rattle.job_queue.proofs.RingSteps.{opens}
use Rattle.job_queue.proofs.job_ring.JobRing.new.Goals as goal

pub ruled-requires-clause-rule : goal.ruled-requires-clause-rule
ruled-requires-clause-rule g c = opens g.row.J.coded.code
