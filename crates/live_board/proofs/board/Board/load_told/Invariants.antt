use Rattle.live_board.proofs.board.Board.load_told.Given as goal

abbrev pub ghosts-hear : goal.ghosts-hear
ghosts-hear a = record { editor = a.editor }
