use Rattle.std.proofs.Common.{◌≡◌, length, ◌∙◌, ap, arith}
use Rattle.std.proofs.lemmas.List.{take_all}
use Rattle.mix_model.specs.Board.{board}
use Rattle.node_graph.proofs.BoardWords.{length-board}
use Rattle.live_graph.proofs.Openings.{push_taken}
use Rattle.live_graph.proofs.opening.board_words.Goals as goal

pub loop-place-preserved : goal.loop-place-preserved
loop-place-preserved c =
    push_taken (board c.args.plan.now) c.loop-place.words.items c.push.new.self.items c.loop-place.place c.board_word.result c.loop-place.invariant c.board_word.ensures c.in_ok-push.ensures.items

pub returns : goal.returns
returns c =
    let p = c.args.plan.now in
    let long = length-board p in
    let nodes : length c.nodes.result.now ≡ length p.nodes = ap length c.nodes.ensures.value in
    let buses : length c.buses.result.now ≡ length p.buses = ap length c.buses.ensures.value in
    let past = c.loop-place-test.false in
    c.loop-place.invariant ∙ take_all c.loop-place.place (board p) (omega arith)
