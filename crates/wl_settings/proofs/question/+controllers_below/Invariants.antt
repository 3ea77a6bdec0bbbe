use Rattle.wl_settings.proofs.question.+controllers_below.Given as goal

abbrev pub decreases-controllers_below : goal.decreases-controllers_below
decreases-controllers_below l = l.count
