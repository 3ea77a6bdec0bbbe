use Rattle.wl_wire.proofs.Between.{begun_there}
use Rattle.wl_wire.proofs.laws.a_dominant_bit_begins_a_frame_at_all.Goals as goal

pub returns : goal.returns
returns c = λ w handed sound heads between dominant k inside. begun_there w sound heads between handed dominant k inside
