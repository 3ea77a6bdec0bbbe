use Rattle.wl_init.proofs.draft.+name_among.Given as goal

abbrev pub decreases-name_among : goal.decreases-name_among
decreases-name_among l = l.number
