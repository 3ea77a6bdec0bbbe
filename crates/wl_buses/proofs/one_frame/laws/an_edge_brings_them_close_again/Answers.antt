use Rattle.wl_buses.proofs.OneFrame.Nearing.{bit_close}
use Rattle.wl_buses.proofs.one_frame.laws.an_edge_brings_them_close_again.Goals as goal

pub returns : goal.returns
returns c = λ s sends since b are room few close senders allowed begin. bit_close s are room sends since few b close senders allowed begin
