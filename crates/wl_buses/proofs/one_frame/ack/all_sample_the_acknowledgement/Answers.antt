use Rattle.wl_buses.proofs.OneFrame.Acks.{acknowledged}
use Rattle.wl_buses.proofs.one_frame.ack.all_sample_the_acknowledgement.Goals as goal

pub returns : goal.returns
returns c = λ s way more winner place slot over drove until since are fits room is few close.
    acknowledged s way more are fits room winner place slot over drove until is since few close c.driven_laws.ensures
