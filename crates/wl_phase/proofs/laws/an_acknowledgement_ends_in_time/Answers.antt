use Rattle.wl_phase.proofs.Answering.{over}
use Rattle.wl_phase.proofs.laws.an_acknowledgement_ends_in_time.Goals as goal

pub returns : goal.returns
returns c = λ s own j seen found back d k n sender listener book their_book same near time ends is finds inside.
    over s own j seen found back d k sender.divides listener.divides same sender.not_fast book their_book near time is ends n finds inside
