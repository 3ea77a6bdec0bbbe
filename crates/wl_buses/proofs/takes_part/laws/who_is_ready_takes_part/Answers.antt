use Rattle.wl_buses.proofs.TakesPart.Takes.{first_part, next_part, ready_takes}
use Rattle.wl_buses.proofs.takes_part.laws.who_is_ready_takes_part.Goals as goal

pub returns : goal.returns
returns c = record { ready = ready_takes; next = next_part; first = first_part }
