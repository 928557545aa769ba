use Rattle.job_queue.specs.Queues.{IsJobSeatOf}
use Rattle.job_queue_tests.proofs.threads.post_and_take.Given as goal

abbrev pub invariant-loop-round : goal.invariant-loop-round
invariant-loop-round g l = IsJobSeatOf l.queue l.seat
