use Rattle.wl_phase.proofs.Answering.{ends_late}
use Rattle.wl_phase.proofs.Others.{ends_by}
use Rattle.wl_phase.proofs.laws.an_acknowledgement_is_over_everywhere.Goals as goal

pub returns : goal.returns
returns c = record {
  ends = λ s i j seen other_seen found other_found between d k n sender first second soon sampled other.
      ends_by s i j seen other_seen found other_found between d k n sender.divides first.divides second.divides sampled other soon;
  ends_there = λ s own j seen found back d k sender listener book their_book same near time ends sampled.
      ends_late s own j seen found back d k sender.divides listener.divides same sender.not_fast book their_book near time sampled ends;
}
