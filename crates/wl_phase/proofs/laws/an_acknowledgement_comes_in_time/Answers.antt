use Rattle.wl_phase.proofs.Answering.{answered}
use Rattle.wl_phase.proofs.laws.an_acknowledgement_comes_in_time.Goals as goal

pub returns : goal.returns
returns c = λ s own j seen found back d k sender listener book their_book same near time is.
    answered s own j seen found back d k sender.divides listener.divides same sender.not_fast book their_book near time is
