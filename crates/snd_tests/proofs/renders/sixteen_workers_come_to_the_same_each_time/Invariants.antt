use Rattle.std.proofs.Common.{◌≡◌, None}
use Rattle.snd_io.specs.SureFiles.{sure_writing}
use Rattle.snd_tests.proofs.renders.sixteen_workers_come_to_the_same_each_time.Given as goal

abbrev pub invariant-loop : goal.invariant-loop
invariant-loop g l = sure_writing l.depot ≡ None
