use Rattle.std.proofs.Common.{slice_index_or, arith, rules}
use Rattle.wl_clock.proofs.Runs.{no_rate, rest_rates, rest_order, order_behind, from_parts, reached_behind, least_behind, stretch_far, first_of}
use Rattle.wl_clock.proofs.stretches.+first_from.Goals as goal

pub first_from-requires : goal.first_from-requires
first_from-requires t c = (
  search rules,
  (
    rest_rates c.args.rate.now c.args.later.now no_rate c.in-len1-up.len_at_least c.requires.rates,
    (
      order_behind c.args.rate.now.from c.args.later.now no_rate c.in-len1-up.len_at_least c.requires.order,
      (omega (arith, c.if-passed-ticks.true), omega (arith, c.requires.near)),
    ),
  ),
)

pub returns-then-passed-ticks-clause-reached : goal.returns-then-passed-ticks-clause-reached
returns-then-passed-ticks-clause-reached t c =
    let order = rest_order c.args.rate.now.from c.args.later.now no_rate c.in-len1-up.len_at_least c.requires.order in
    let same = from_parts c.args.rate.now c.args.later.now no_rate c.in-len1-up.len_at_least c.first_from.result in
    let passed = rw c.stretch-passed.ensures.ticks at c.if-passed-ticks.true in
    let reached = rw c.stretch-passed.ensures.ticks at c.first_from.ensures.reached in
    let all = reached_behind c.args.rate.now _ _ order c.args.ticks c.first_from.result passed reached in
    omega (arith, same, all)

pub returns-then-passed-ticks-clause-least : goal.returns-then-passed-ticks-clause-least
returns-then-passed-ticks-clause-least t c = λ k h.
    let order = rest_order c.args.rate.now.from c.args.later.now no_rate c.in-len1-up.len_at_least c.requires.order in
    let same = from_parts c.args.rate.now c.args.later.now no_rate c.in-len1-up.len_at_least k in
    let passed = rw c.stretch-passed.ensures.ticks at c.if-passed-ticks.true in
    let least = rw c.stretch-passed.ensures.ticks at c.first_from.ensures.least in
    let all = least_behind c.args.rate.now _ _ (first_of c.args.rate.now c.args.later.now c.requires.rates) order c.args.ticks c.first_from.result passed least k h in
    omega (arith, same, all)

pub returns-then-passed-ticks-clause-soon : goal.returns-then-passed-ticks-clause-soon
returns-then-passed-ticks-clause-soon t c =
    let far = stretch_far c.args.rate.now (first_of c.args.rate.now c.args.later.now c.requires.rates) (slice_index_or c.args.later.now 0 no_rate).from in
    omega (arith, far, c.stretch-passed.ensures.ticks, c.first_from.ensures.soon, c.if-passed-ticks.true)
