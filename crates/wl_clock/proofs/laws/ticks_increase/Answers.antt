use Rattle.wl_clock.proofs.Ticks.{ticks_later, tick_first, ticks_apart, ticks_near}
use Rattle.wl_clock.proofs.laws.ticks_increase.Goals as goal

pub returns-clause-later : goal.returns-clause-later
returns-clause-later c = ticks_later

pub returns-clause-first : goal.returns-clause-first
returns-clause-first c = tick_first

pub returns-clause-low : goal.returns-clause-low
returns-clause-low c = ticks_apart

pub returns-clause-high : goal.returns-clause-high
returns-clause-high c = ticks_near
