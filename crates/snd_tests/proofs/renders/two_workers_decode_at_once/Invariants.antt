use Rattle.std.proofs.Common.{◌≡◌, None}
use Rattle.snd_io.specs.SureFiles.{sure_writing}
use Rattle.snd_tests.proofs.renders.two_workers_decode_at_once.Given as goal

abbrev pub invariant-loop-first : goal.invariant-loop-first
invariant-loop-first g l = sure_writing l.depot ≡ None
