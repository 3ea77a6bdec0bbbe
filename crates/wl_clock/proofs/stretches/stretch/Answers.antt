use Rattle.std.proofs.Common.{rules}
use Rattle.wl_clock.proofs.Runs.{stretch_near}
use Rattle.wl_clock.proofs.stretches.stretch.Goals as goal

pub returns-in-Some-clause-high : goal.returns-in-Some-clause-high
returns-in-Some-clause-high c = (let near = stretch_near c.args.rate.now c.requires.rate c.args.k in let product = c.checked_mul.ensures in search rules)

pub returns-in-None-clause-high : goal.returns-in-None-clause-high
returns-in-None-clause-high c = (let near = stretch_near c.args.rate.now c.requires.rate c.args.k in search rules)
