use Rattle.wl_hub.proofs.board.Board+T+MaxWord.raise.Given as goal

abbrev pub ghosts-raise_as : goal.ghosts-raise_as
ghosts-raise_as g a = record { gift = a.gift }
