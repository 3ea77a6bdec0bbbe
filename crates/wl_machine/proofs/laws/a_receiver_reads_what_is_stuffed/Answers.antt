use Rattle.wl_machine.proofs.Stuffed.{read_stuffs, read_frame}
use Rattle.wl_machine.proofs.laws.a_receiver_reads_what_is_stuffed.Goals as goal

pub returns : goal.returns
returns c = record { stuffs = read_stuffs; frame = read_frame }
