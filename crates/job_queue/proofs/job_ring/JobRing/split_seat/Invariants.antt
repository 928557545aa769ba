use Rattle.slot_tags.specs.Tags.{table_of}
use Rattle.job_queue.proofs.job_ring.JobRing.split_seat.Given as goal

abbrev pub ghosts-split_named : goal.ghosts-split_named
ghosts-split_named g a = record { table = table_of a.self.now.slots }
