use Rattle.std.proofs.Common.{◌≡◌, ◌+◌, suc, arith}
use Rattle.wl_segments.specs.Lengths.{bit_quanta}
use Rattle.wl_phase.specs.Answer.{own_sample}
use Rattle.wl_phase.proofs.Early.{finds_early, over}
use Rattle.wl_phase.proofs.Ends.{bits_after, over_others}
use Rattle.wl_phase.proofs.Hearing.{heard}
use Rattle.wl_phase.proofs.laws.an_early_acknowledgement_moves_a_node.Goals as goal

pub returns : goal.returns
returns c = record {
  finds = λ s i j seen other_seen found other_found between d k n sender first second book apart fits sampled other by.
      finds_early s i j seen other_seen found other_found between d k n sender.divides first.divides second.divides sampled other book apart fits by;
  over = λ i c l between k x listener clock fits begun. over i c l between k listener.divides clock.divides fits x begun;
  others = λ s i j c l seen other_seen found other_found from_i from_j d k n x sender first second clock ends sampled other begun.
      over_others s i j c l seen other_seen found other_found from_i from_j d k n sender.divides first.divides second.divides clock.divides sampled other ends x begun;
  later = λ s j back k x c sender listener book near some few over. bits_after s j back k x c sender.divides listener.divides book near some few over;
  sampled = λ s own j seen sender_seen found back d k sender listener book their_book same near time is hears.
      let answered = c.an_acknowledgement_comes_in_time.ensures s own j seen found back d k sender listener book their_book same near time is in
      let h = heard s own j back d k sender_seen sender.divides book same answered hears in
      let next : own_sample s own (suc d) ≡ own_sample s own d + bit_quanta own = omega arith in
      (h.0, h.1, h.2.later, (let e = h.2.inside in omega arith), c.the_next_sample_is_dominant.ensures own sender_seen (own_sample s own d) h.0 book h.2);
}
