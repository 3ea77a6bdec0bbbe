-- One bus of a family, as the condition and the room see it.
use Rattle.wl_bound.specs.declared.bus.OneBus.{OneBus}
use Rattle.wl_bound.specs.Families.{Bus, bus_of}

-- its terms
abbrev pub the_bus : OneBus → Bus
the_bus b = bus_of b.family.now b.setting
