use Rattle.std.proofs.Common.{arith, rules}
use Rattle.wl_clock.proofs.Runs.{no_rate, rest_rates, order_behind}
use Rattle.wl_clock.proofs.stretches.+ticks_after.Goals as goal

pub ticks_after-requires : goal.ticks_after-requires
ticks_after-requires t c = (
  search rules,
  (
    rest_rates c.args.rate.now c.args.later.now no_rate c.in-len1-up.len_at_least c.requires.rates,
    (
      order_behind c.args.rate.now.from c.args.later.now no_rate c.in-len1-up.len_at_least c.requires.order,
      (omega (arith, c.if-next-k.true), c.requires.near),
    ),
  ),
)
