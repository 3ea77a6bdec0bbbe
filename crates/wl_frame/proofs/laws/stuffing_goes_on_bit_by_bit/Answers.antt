use Rattle.wl_frame.proofs.Stuffed.{stuff_run, stuff_front, kept_front}
use Rattle.wl_frame.proofs.OneStuffing.{front_stuffs}
use Rattle.wl_frame.proofs.laws.stuffing_goes_on_bit_by_bit.Goals as goal

pub returns : goal.returns
returns c = record { due = stuff_run; stays = stuff_front; keeps = kept_front; front = front_stuffs }
