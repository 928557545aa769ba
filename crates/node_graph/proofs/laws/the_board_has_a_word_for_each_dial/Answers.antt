use Rattle.node_graph.proofs.BoardWords.{length-board}
use Rattle.node_graph.proofs.laws.the_board_has_a_word_for_each_dial.Goals as goal

pub returns : goal.returns
returns c = length-board c.args.plan.now
