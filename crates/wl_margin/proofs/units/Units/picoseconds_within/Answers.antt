use Rattle.std.proofs.Common.{arith, min}
use Rattle.wl_margin.specs.Sentences.{longest_time}
use Rattle.wl_margin.proofs.UnitLemmas.{by_parts}
use Rattle.wl_margin.proofs.units.Units.picoseconds_within.Goals as goal

pub returns : goal.returns
returns c =
    rw (c.min-time.ensures, c.tick-tick.ensures.tick) (by_parts 1000000 (omega arith) (min c.args.time longest_time) c.args.self.tick)
