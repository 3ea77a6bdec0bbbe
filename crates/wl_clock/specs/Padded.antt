-- The rates of a clock as they are held, which is this project's representation: sixteen, those after its own being spare.
use Rattle.std.specs.Prelude.{◌-◌, List, ◌++◌, length, replicate}
use Rattle.wl_clock.specs.Timing.{most_rates}
use Rattle.wl_clock.specs.declared.Rate.{Rate}

abbrev pub spare : Rate
spare = record { from = 0; num = 1; den = 1 }

abbrev pub padded_rates : List Rate → List Rate
padded_rates rates = rates ++ replicate (most_rates - length rates) spare
