use Rattle.std.proofs.Common.{◌<◌, refl}
use Rattle.wl_explain.specs.Figures.{quanta_begun}
use Rattle.wl_explain.proofs.Means.{mean_of_one}
use Rattle.wl_explain.proofs.Quantum.of_clock.Goals as goal

pub returns-clause-rate : goal.returns-clause-rate
returns-clause-rate c r one =
    let begun = c.quanta_begun-quanta.ensures in
    let some : 0 < quanta_begun c.args.end c.args.clock.now = rw begun.quanta at begun.some in
    rw (mean_of_one c.args.clock.now r c.at-start.ensures.timing one (quanta_begun c.args.end c.args.clock.now) some) refl
