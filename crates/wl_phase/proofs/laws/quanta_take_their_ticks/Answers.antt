use Rattle.wl_phase.proofs.Floors.{instant_is, quanta_low, quanta_high}
use Rattle.wl_phase.proofs.laws.quanta_take_their_ticks.Goals as goal

pub returns-clause-instant : goal.returns-clause-instant
returns-clause-instant c = λ s k h. instant_is s k h.divides

pub returns-clause-low : goal.returns-clause-low
returns-clause-low c = λ s k n h. quanta_low s k n h.divides

pub returns-clause-high : goal.returns-clause-high
returns-clause-high c = λ s k n h. quanta_high s k n h.divides
