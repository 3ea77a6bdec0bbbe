use Rattle.std.proofs.Common.{arith, min}
use Rattle.wl_margin.specs.Sentences.{longest_time}
use Rattle.wl_margin.proofs.UnitLemmas.{by_parts_up}
use Rattle.wl_margin.proofs.units.Units.picoseconds_around.Goals as goal

pub returns : goal.returns
returns c =
    rw (c.div_ceil.ensures, c.min-time.ensures, c.tick-tick.ensures.tick)
    (by_parts_up 1000000 (omega arith) (min c.args.time longest_time) c.args.self.tick)
