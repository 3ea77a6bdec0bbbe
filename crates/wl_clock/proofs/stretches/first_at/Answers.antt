use Rattle.wl_clock.proofs.Runs.{stretch_reaches}
use Rattle.wl_clock.proofs.stretches.first_at.Goals as goal

pub returns-clause-reached : goal.returns-clause-reached
returns-clause-reached c = stretch_reaches _ c.requires.rate _ _ c.div_ceil.ensures
