use Rattle.std.proofs.Common.{arith, ap}
use Rattle.wl_clock.specs.Timing.{Timing}
use Rattle.wl_clock.proofs.Runs.{no_rate}
use Rattle.wl_clock.proofs.Ticks.{tick_parts, tick_one, tick_first, rates_parts}
use Rattle.wl_clock.proofs.Clock.first_not_before.Goals as goal

pub returns-then-t-self-clause-reached : goal.returns-then-t-self-clause-reached
returns-then-t-self-clause-reached c = omega (arith, tick_first c.args.self.now, c.if-t-self.true, ap (λ (t : Timing). t.offset) c.self.view_is)

pub first_from-requires-clause-rates : goal.first_from-requires-clause-rates
first_from-requires-clause-rates c = rates_parts c.args.self.now c.rates-rates.ensures.timing c.rates-rates.result.now c.rates-rates.ensures.rates no_rate

pub returns-clause-reached : goal.returns-clause-reached
returns-clause-reached c =
    let is = tick_parts c.args.self.now c.rates-rates.ensures.timing c.rates-rates.result.now c.rates-rates.ensures.rates no_rate c.first_from.result in
    omega (arith, is, c.first_from.ensures.reached, ap (λ (t : Timing). t.offset) c.self.view_is)

pub returns-clause-least : goal.returns-clause-least
returns-clause-least c = λ k h.
    let is = tick_parts c.args.self.now c.rates-rates.ensures.timing c.rates-rates.result.now c.rates-rates.ensures.rates no_rate k in
    omega (arith, is, c.first_from.ensures.least k h, ap (λ (t : Timing). t.offset) c.self.view_is)

pub returns-then-ticks-le-QUICK_TICKS-clause-reached : goal.returns-then-ticks-le-QUICK_TICKS-clause-reached
returns-then-ticks-le-QUICK_TICKS-clause-reached c =
    let is = tick_one c.args.self.now c.rates-rates.ensures.timing c.rates-rates.result.now c.rates-rates.ensures.rates c.if-rates-eq1.true no_rate c.quick_first.result in
    omega (arith, is, c.quick_first.ensures.reached, ap (λ (t : Timing). t.offset) c.self.view_is)

pub returns-then-ticks-le-QUICK_TICKS-clause-least : goal.returns-then-ticks-le-QUICK_TICKS-clause-least
returns-then-ticks-le-QUICK_TICKS-clause-least c = λ k h.
    let is = tick_one c.args.self.now c.rates-rates.ensures.timing c.rates-rates.result.now c.rates-rates.ensures.rates c.if-rates-eq1.true no_rate k in
    omega (arith, is, c.quick_first.ensures.least k h, ap (λ (t : Timing). t.offset) c.self.view_is)
