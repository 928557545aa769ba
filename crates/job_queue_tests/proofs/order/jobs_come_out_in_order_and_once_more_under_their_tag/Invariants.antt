use Rattle.job_queue.specs.Queues.{IsJobSeatOf}
use Rattle.job_queue_tests.proofs.order.jobs_come_out_in_order_and_once_more_under_their_tag.Given as goal

abbrev pub invariant-loop-job : goal.invariant-loop-job
invariant-loop-job g l = IsJobSeatOf l.queue l.seat
