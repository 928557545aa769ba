use Rattle.std.proofs.Common.{rules, subst, List}
use Rattle.std.specs.List.Sorted.{IsPermutation}
use Rattle.std.proofs.lemmas.List.Sorted.{IsNonDecreasingBy-from_sort_by_key}
use Rattle.scene_model.specs.declared.bus.Bus.{Bus}
use Rattle.mix_model.specs.Depths.{depth_at}
use Rattle.mix_model.proofs.Deepening.{ordered_by_depth}
use Rattle.mix_model.proofs.order.topological_order.Goals as goal

pub returns-clause-ordered : goal.returns-clause-ordered
returns-clause-ordered c =
    let depths = c.depths-depths.result in
    let ordered_buses = c.sort_unstable_by_key.new.self.items in
    ordered_by_depth depths c.args.buses.now ordered_buses c.depths-depths.ensures.rises
    (subst (λ (bs : List Bus). IsPermutation bs ordered_buses) c.in_ok-ordered_buses.ensures.items c.sort_unstable_by_key.ensures.permutation)
    (IsNonDecreasingBy-from_sort_by_key (λ (b : Bus). depth_at depths b.node) ordered_buses c.sort_unstable_by_key.ensures.sorted (λ a r q k. search rules))
