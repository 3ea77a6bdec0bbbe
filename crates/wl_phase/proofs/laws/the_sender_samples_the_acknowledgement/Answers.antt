use Rattle.std.proofs.Common.{◌≡◌, suc, ◌+◌, ◌-◌, arith}
use Rattle.wl_segments.specs.Lengths.{bit_quanta, sample_at}
use Rattle.wl_phase.specs.Ways.{moved_to}
use Rattle.wl_phase.specs.Answer.{own_sample}
use Rattle.wl_phase.proofs.Hearing.{heard, moved_most}
use Rattle.wl_phase.proofs.laws.the_sender_samples_the_acknowledgement.Goals as goal

pub returns : goal.returns
returns c = λ s own j seen sender_seen found back d k sender listener book their_book same near time is hears.
    let answered = c.an_acknowledgement_comes_in_time.ensures s own j seen found back d k sender listener book their_book same near time is in
    let h = heard s own j back d k sender_seen sender.divides book same answered hears in (
      h.0 + moved_to (sample_at own - 1) own.sjw (own_sample s own d + bit_quanta own - h.0),
      (let most = moved_most own (own_sample s own d + bit_quanta own) h.0 h.2.inside in
          let next : own_sample s own (suc d) ≡ own_sample s own d + bit_quanta own = omega arith in
          omega arith),
      c.the_next_sample_is_dominant.ensures own sender_seen (own_sample s own d) h.0 book h.2,
    )
