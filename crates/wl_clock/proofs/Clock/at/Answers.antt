use Rattle.std.proofs.Common.{arith, ap}
use Rattle.wl_clock.specs.Timing.{Timing}
use Rattle.wl_clock.proofs.Runs.{no_rate}
use Rattle.wl_clock.proofs.Ticks.{tick_parts, tick_one, tick_far, rates_parts}
use Rattle.wl_clock.proofs.Clock.at.Goals as goal

pub returns-clause-tick : goal.returns-clause-tick
returns-clause-tick c =
    let is = tick_parts c.args.self.now c.rates-rates.ensures.timing c.rates-rates.result.now c.rates-rates.ensures.rates no_rate c.args.k in
    omega (arith, is, c.ticks_after.ensures.ticks, ap (λ (t : Timing). t.offset) c.self.view_is)

pub returns-clause-low : goal.returns-clause-low
returns-clause-low c =
    let is = tick_parts c.args.self.now c.rates-rates.ensures.timing c.rates-rates.result.now c.rates-rates.ensures.rates no_rate c.args.k in
    let far = tick_far c.args.self.now c.rates-rates.ensures.timing c.args.k in
    omega (arith, is, far, c.ticks_after.ensures.ticks, ap (λ (t : Timing). t.offset) c.self.view_is)

pub returns-then-rates-eq1-clause-tick : goal.returns-then-rates-eq1-clause-tick
returns-then-rates-eq1-clause-tick c =
    let is = tick_one c.args.self.now c.rates-rates.ensures.timing c.rates-rates.result.now c.rates-rates.ensures.rates c.if-rates-eq1.true no_rate c.args.k in
    omega (arith, is, c.quick_stretch.ensures.ticks, ap (λ (t : Timing). t.offset) c.self.view_is)

pub returns-then-rates-eq1-clause-low : goal.returns-then-rates-eq1-clause-low
returns-then-rates-eq1-clause-low c =
    let is = tick_one c.args.self.now c.rates-rates.ensures.timing c.rates-rates.result.now c.rates-rates.ensures.rates c.if-rates-eq1.true no_rate c.args.k in
    let far = tick_far c.args.self.now c.rates-rates.ensures.timing c.args.k in
    omega (arith, is, far, c.quick_stretch.ensures.ticks, ap (λ (t : Timing). t.offset) c.self.view_is)

pub ticks_after-requires-clause-rates : goal.ticks_after-requires-clause-rates
ticks_after-requires-clause-rates c = rates_parts c.args.self.now c.rates-rates.ensures.timing c.rates-rates.result.now c.rates-rates.ensures.rates no_rate
