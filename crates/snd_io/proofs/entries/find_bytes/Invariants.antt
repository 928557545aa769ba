use Rattle.std.proofs.Common.{◌≡◌}
use Rattle.std.specs.FinMap.{get}
use Rattle.std.specs.VecDeque.Iter.{deque_iter_rest}
use Rattle.snd_io.specs.Fakes.{files_of}
use Rattle.snd_io.proofs.entries.find_bytes.Given as goal

abbrev pub invariant-loop-entry : goal.invariant-loop-entry
invariant-loop-entry l = get (files_of l.entries.items) l.name ≡ get (files_of (deque_iter_rest l.entry-iterator)) l.name
