use Rattle.live_board.proofs.Openings.{opens}
use Rattle.live_board.proofs.board.Board.open.Goals as goal

pub of_words-requires : goal.of_words-requires
of_words-requires c = rw (c.as_slice.ensures.value, c.in_ok-words.ensures) (opens c.args.opening c.requires.2)
