use Rattle.job_queue.specs.Queues.{IsJobSeatOf}
use Rattle.job_queue_tests.proofs.queues.posted.Given as goal

abbrev pub invariant-loop-job : goal.invariant-loop-job
invariant-loop-job g l = IsJobSeatOf l.queue l.seat
