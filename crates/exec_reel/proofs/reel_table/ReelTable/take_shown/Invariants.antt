use Rattle.exec_reel.proofs.reel_table.ReelTable.take_shown.Given as goal

abbrev pub ghosts-take_numbered : goal.ghosts-take_numbered
ghosts-take_numbered a = record { number = a.page }
