use Rattle.std.proofs.Common.{arith}
use Rattle.live_graph.proofs.Openings.{largest_gain, largest_of_node, largest_switch, largest_time}
use Rattle.live_graph.proofs.opening.largest_word.Goals as goal

pub returns-then-place-nodes : goal.returns-then-place-nodes
returns-then-place-nodes c = largest_gain c.args.nodes c.args.buses c.args.place c.if-place-nodes.true c.requires.place

pub returns-then-word-eq0 : goal.returns-then-word-eq0
returns-then-word-eq0 c =
    let past = c.if-place-nodes.false in
    let is = c.if-word-eq0.true in
    largest_switch c.args.nodes c.args.buses c.args.place (omega arith) is

pub returns-then-word-eq3 : goal.returns-then-word-eq3
returns-then-word-eq3 c =
    let past = c.if-place-nodes.false in
    largest_of_node c.args.nodes c.args.buses c.args.place 3 (omega arith) c.if-word-eq3.true

pub returns-else-word-eq3 : goal.returns-else-word-eq3
returns-else-word-eq3 c =
    let past = c.if-place-nodes.false in
    let switch = c.if-word-eq0.false in
    let other = c.if-word-eq3.false in
    largest_time c.args.nodes c.args.buses c.args.place (omega arith) switch other
