use Rattle.job_queue.specs.Queues.{IsJobSeatOf}
use Rattle.tag_bench.proofs.job_rounds.turns.Given as goal

abbrev pub invariant-loop-job : goal.invariant-loop-job
invariant-loop-job g l = IsJobSeatOf l.queue l.seat
