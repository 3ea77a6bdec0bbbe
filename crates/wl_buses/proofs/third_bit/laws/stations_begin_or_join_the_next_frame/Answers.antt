use Rattle.wl_confine.specs.declared.Mode.TheVariants.{Active}
use Rattle.wl_buses.proofs.ThirdBit.Lasting.{after_third, rest_none}
use Rattle.wl_buses.proofs.ThirdBit.Outset.{third_is_outset}
use Rattle.wl_buses.proofs.third_bit.laws.stations_begin_or_join_the_next_frame.Goals as goal

pub returns-clause-outset : goal.returns-clause-outset
returns-clause-outset c = λ r third before given line are from may. third_is_outset c.idle_machines_may_wait.ensures r third before given line are from may

pub returns-clause-after : goal.returns-clause-after
returns-clause-after c = λ r third before given line are i inside. after_third r third before given line are i inside

pub returns-clause-third : goal.returns-clause-third
returns-clause-third c = λ r third before line are from i e. rest_none r third before (λ k. record { which = 0; mode = Active }) line are i (from.inside i e) (from.decides i e) (from.reached i e)
