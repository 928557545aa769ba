use Rattle.std.proofs.Common.{length, ◌∙◌, ap, arith}
use Rattle.std.proofs.lemmas.List.{take_all}
use Rattle.live_graph.specs.Dials.{most_words}
use Rattle.live_graph.proofs.Openings.{length-most, push_read}
use Rattle.live_graph.proofs.opening.largest_words.Goals as goal

pub loop-place-preserved : goal.loop-place-preserved
loop-place-preserved c =
    let nodes = length c.nodes.result.now in
    let buses = length c.buses.result.now in
    let long = length-most nodes buses in
    let within = c.loop-place-test.true in
    push_read (most_words nodes buses) c.loop-place.words.items c.push.new.self.items c.loop-place.place c.largest_word.result c.loop-place.invariant (omega arith) c.largest_word.ensures c.in_ok-push.ensures.items

pub returns : goal.returns
returns c =
    let nodes = length c.nodes.result.now in
    let buses = length c.buses.result.now in
    let long = length-most nodes buses in
    let past = c.loop-place-test.false in
    c.loop-place.invariant ∙ take_all c.loop-place.place (most_words nodes buses) (omega arith)
    ∙ ap (λ n. most_words n buses) (ap length c.nodes.ensures.value) ∙ ap (most_words (length c.args.plan.now.nodes)) (ap length c.buses.ensures.value)
