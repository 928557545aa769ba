use Rattle.std.proofs.Common.{◌≡◌, ◌<◌, ℕ, List, Some, length, sym, subst}
use Rattle.std.specs.Prelude.{slice_index, Contains}
use Rattle.std.proofs.lemmas.List.Sorted.{All-permutation, Contains-permutation}
use Rattle.scene_model.specs.declared.bus.Bus.{Bus}
use Rattle.scene_model.specs.Reach.{HasNoCycle}
use Rattle.mix_model.specs.Depths.{AllRise, depth_at, Rises}
use Rattle.mix_model.proofs.ScenePlans.{within_most}
use Rattle.engine.proofs.order.put_in_order.Goals as goal

pub depths-depths-requires-clause-buses : goal.depths-depths-requires-clause-buses
depths-depths-requires-clause-buses c = rw c.buses-buses.ensures.value (within_most c.args.plan.now c.buses-buses.ensures.plan)

pub depths-depths-requires-clause-no_cycle : goal.depths-depths-requires-clause-no_cycle
depths-depths-requires-clause-no_cycle c = subst HasNoCycle (sym c.buses-buses.ensures.value) c.buses-buses.ensures.plan.no_cycle

pub depths-depths-requires-clause-most : goal.depths-depths-requires-clause-most
depths-depths-requires-clause-most c = rw c.buses-buses.ensures.value c.buses-buses.ensures.plan.buses_most

-- a bus rises to the node to which it is attached
rises_to : (depth : ℕ → ℕ) (buses : List Bus) (b : Bus) (n : ℕ) → AllRise depth buses → Contains buses b → b.to ≡ Some n → depth b.node < depth n
rises_to depth buses b n rise (k, inside, e) to = subst (λ (x : Bus). Rises depth x) e (rise k b inside) n to

pub returns-clause-order : goal.returns-clause-order
returns-clause-order c =
    let p = c.args.plan.now in
    let depths = c.depths-depths.result in
    let old = c.args.order.now in
    let new = c.sort_by_depth.new.order in
    let moves = c.sort_by_depth.ensures.permutation in
    record {
      numbers = All-permutation (λ n. n < length p.nodes) old new moves c.requires.numbers;
      whole = λ n below. Contains-permutation old new n moves (c.requires.whole n below);
      behind = λ k b inside among to.
          let below : b.node < length p.nodes = subst (λ (x : Bus). x.node < length p.nodes) among.2 (c.buses-buses.ensures.plan.buses_are among.0 b among.1).node_is in
          let rise : AllRise (depth_at depths) p.buses = rw (sym c.buses-buses.ensures.value) c.depths-depths.ensures.rises in
          c.sort_by_depth.ensures.behind k b.node inside (c.requires.whole b.node below) (rises_to (depth_at depths) p.buses b (slice_index new k) rise among to);
    }
