use Rattle.std.proofs.Common.{length}
use Rattle.wl_settings.proofs.choices.+with_chosen.Given as goal

abbrev pub decreases-with_chosen : goal.decreases-with_chosen
decreases-with_chosen l = length l.controllers.now
