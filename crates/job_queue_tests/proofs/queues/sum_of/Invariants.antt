use Rattle.job_queue.specs.Queues.{IsJobSeatOf}
use Rattle.job_queue_tests.proofs.queues.sum_of.Given as goal

abbrev pub invariant-loop : goal.invariant-loop
invariant-loop g l = IsJobSeatOf l.queue l.seat
