use Rattle.std.proofs.Common.{rules}
use Rattle.std.proofs.lemmas.List.Sorted.{IsNonDecreasingBy-from_sort_by_key}
use Rattle.scene_model.specs.declared.bus.Bus.{Bus}
use Rattle.mix_model.specs.Depths.{depth_at}
use Rattle.mix_model.proofs.Deepening.{ordered_by_depth}
use Rattle.engine.proofs.order.sort_buses.Goals as goal

pub returns-clause-ordered : goal.returns-clause-ordered
returns-clause-ordered c =
    let depths = c.args.depths.now in
    let buses = c.sort_unstable_by_key.new.self in
    ordered_by_depth depths c.args.buses.now buses c.requires c.sort_unstable_by_key.ensures.permutation
    (IsNonDecreasingBy-from_sort_by_key (λ (b : Bus). depth_at depths b.node) buses c.sort_unstable_by_key.ensures.sorted (λ a r q k. search rules))
