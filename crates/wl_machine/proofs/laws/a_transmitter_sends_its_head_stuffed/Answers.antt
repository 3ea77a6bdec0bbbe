use Rattle.wl_machine.proofs.Stuffed.{sent_stuffs, found_sent, found_end}
use Rattle.wl_machine.proofs.laws.a_transmitter_sends_its_head_stuffed.Goals as goal

pub returns : goal.returns
returns c = record { sent = sent_stuffs; found = λ head own content s. found_sent head own s; end = found_end }
