use Rattle.std.proofs.Common.{◌≡◌, take}
use Rattle.mix_model.specs.Board.{board}
use Rattle.live_graph.proofs.opening.board_words.Given as goal

abbrev pub invariant-loop-place : goal.invariant-loop-place
invariant-loop-place l = l.words.items ≡ take l.place (board l.plan)
