use Rattle.wl_buses.proofs.OneListener.Hearing.{hears_it}
use Rattle.wl_buses.proofs.one_listener.laws.a_listener_samples_the_acknowledgement.Goals as goal

pub returns : goal.returns
returns c = λ s way more winner place slot over drove until since are fits room hearing is own few near.
    hears_it s way more are fits room hearing winner place slot over drove until is own since few near c.driven_laws.ensures
