use Rattle.std.proofs.Common.{◌≡◌, None}
use Rattle.snd_io.specs.SureFiles.{sure_writing}
use Rattle.snd_tests.proofs.programs.depot_of.Given as goal

abbrev pub invariant-loop-name : goal.invariant-loop-name
invariant-loop-name l = sure_writing l.depot ≡ None
