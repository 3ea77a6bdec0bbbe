use Rattle.std.proofs.Common.{◌≡◌, ◌≤◌, ◌∙◌, All, List, length, subst, sym}
use Rattle.wl_clock.specs.declared.Rate.{Rate}
use Rattle.wl_clock.specs.Timing.{IsRate, most_rates}
use Rattle.wl_limits.specs.declared.Limits.TheVariants.{Wide}
use Rattle.wl_bound.proofs.Clocks.{rates_are}
use Rattle.wl_bound.proofs.oscillator.make_a_clock.Goals as goal

pub returns-in-Ok-clause-rates : goal.returns-in-Ok-clause-rates
returns-in-Ok-clause-rates c =
    let P : List Rate → Type 0 = λ rates. All IsRate rates in
    let e : c.in-Ok.clock.rates ≡ c.args.rates.now =
    rates_are Wide 0 c.args.rates.now c.in-Ok.clock (sym c.within.ensures ∙ c.in-Ok.is) in
    subst P e c.at-start.ensures.timing.rates

pub returns-in-Ok-clause-few : goal.returns-in-Ok-clause-few
returns-in-Ok-clause-few c =
    let P : List Rate → Type 0 = λ rates. length rates ≤ most_rates in
    let e : c.in-Ok.clock.rates ≡ c.args.rates.now =
    rates_are Wide 0 c.args.rates.now c.in-Ok.clock (sym c.within.ensures ∙ c.in-Ok.is) in
    subst P e c.at-start.ensures.timing.few
