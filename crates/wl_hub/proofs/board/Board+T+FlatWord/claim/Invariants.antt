use Rattle.wl_hub.proofs.board.Board+T+FlatWord.claim.Given as goal

abbrev pub ghosts-claim_as : goal.ghosts-claim_as
ghosts-claim_as g a = record { gift = a.gift }
