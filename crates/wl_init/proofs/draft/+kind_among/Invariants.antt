use Rattle.wl_init.proofs.draft.+kind_among.Given as goal

abbrev pub decreases-kind_among : goal.decreases-kind_among
decreases-kind_among l = l.number
