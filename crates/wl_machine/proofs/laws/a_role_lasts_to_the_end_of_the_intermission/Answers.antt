use Rattle.std.proofs.Common.{refl}
use Rattle.wl_machine.proofs.RoleSteps.{role_counts, role_stays, role_carried, role_begins}
use Rattle.wl_machine.proofs.laws.a_role_lasts_to_the_end_of_the_intermission.Goals as goal

pub returns : goal.returns
returns c = record { counted = role_counts; first = refl; off = λ s. refl; stays = role_stays; carried = role_carried; begun = role_begins }
