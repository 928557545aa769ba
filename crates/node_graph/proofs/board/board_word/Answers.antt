use Rattle.std.proofs.Common.{◌≡◌, ◌+◌, ◌*◌, ◌<◌, ◌/◌, ◌%◌, ◌-◌, Some, get_or, length, sym, ◌∙◌, ap, arith}
use Rattle.std.specs.Prelude.{slice_get}
use Rattle.std.specs.Option.{option_map}
use Rattle.std.proofs.lemmas.Option.{slice_get-get_or, slice_get-map}
use Rattle.scene_model.specs.declared.bus.Bus.{Bus}
use Rattle.scene_model.proofs.Steps.{no_bus, no_node}
use Rattle.node_graph.proofs.BoardWords.{node_word, gain_word}
use Rattle.node_graph.proofs.board.board_word.Goals as goal

pub bounds-buses-bus : goal.bounds-buses-bus
bounds-buses-bus c =
    let nodes : length c.nodes-nodes.result.now ≡ length c.args.plan.now.nodes = ap length c.nodes-nodes.ensures.value in
    let buses : length c.buses.result.now ≡ length c.args.plan.now.buses = ap length c.buses.ensures.value in
    omega arith

pub returns-then-node-nodes : goal.returns-then-node-nodes
returns-then-node-nodes c =
    let nodes = c.nodes-nodes.result.now in
    let place = c.args.place in
    let n = place / 5 in
    let split : place ≡ 5 * n + place % 5 = omega arith in
    let below : place % 5 < 5 = omega arith in
    let read = ap (λ ns. slice_get ns n) (sym c.nodes-nodes.ensures.value) ∙ slice_get-get_or nodes n no_node c.if-node-nodes.true in
    node_word c.args.plan.now place n (place % 5) (get_or nodes n no_node) split below read ∙ c.node_word.ensures

pub returns-else-node-nodes : goal.returns-else-node-nodes
returns-else-node-nodes c =
    let buses = c.buses.result.now in
    let place = c.args.place in
    let k = place - 5 * length c.nodes-nodes.result.now in
    let nodes : length c.nodes-nodes.result.now ≡ length c.args.plan.now.nodes = ap length c.nodes-nodes.ensures.value in
    let same : length buses ≡ length c.args.plan.now.buses = ap length c.buses.ensures.value in
    let split : place ≡ 5 * length c.args.plan.now.nodes + k = omega arith in
    let within : k < length buses = omega arith in
    let read = ap (λ bs. slice_get bs k) (sym c.buses.ensures.value) ∙ slice_get-get_or buses k no_bus within in
    gain_word c.args.plan.now place k split ∙ slice_get-map (λ (b : Bus). b.gain) c.args.plan.now.buses k ∙ ap (option_map (λ (b : Bus). b.gain)) read ∙ ap Some (sym c.from.ensures)
