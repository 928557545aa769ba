use Rattle.std.proofs.Common.{◌+◌, ◌-◌, ◌*◌}
use Rattle.std.specs.Prelude.{sum}
use Rattle.scene_model.specs.Limits as limits
use Rattle.mix_model.specs.Depths.{AreLeast}
use Rattle.mix_model.proofs.order.settle.Given as goal

abbrev pub invariant-loop : goal.invariant-loop
invariant-loop l = AreLeast l.buses l.depths

abbrev pub decreases-loop : goal.decreases-loop
decreases-loop l = (limits.most_nodes + 1) * limits.most_buses - sum l.depths
