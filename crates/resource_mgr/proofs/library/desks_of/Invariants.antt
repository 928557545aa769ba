use Rattle.std.proofs.Common.{◌≡◌, map}
use Rattle.resource_mgr.specs.Desks.{new_desk}
use Rattle.resource_mgr.proofs.library.desks_of.Given as goal

abbrev pub invariant-loop-seat : goal.invariant-loop-seat
invariant-loop-seat l = l.desks.items ≡ map new_desk l.yielded
