use Rattle.wl_hub.proofs.board.Board+T+FlatWord.clash.Given as goal

abbrev pub ghosts-clash_as : goal.ghosts-clash_as
ghosts-clash_as g a = record { gift = a.gift }
