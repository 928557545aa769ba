use Rattle.std.proofs.Common.{◌≡◌, All, vec_len}
use Rattle.std.specs.Arc.{arc_value}
use Rattle.exec_reel.proofs.reel.owners.Given as goal

abbrev pub invariant-loop : goal.invariant-loop
invariant-loop l = (vec_len l.owners ≡ l.counter) × All (λ a. arc_value a ≡ arc_value l.shared) l.owners.items
