use Rattle.std.proofs.Common.{◌≡◌, suc, ◌+◌, arith}
use Rattle.wl_segments.specs.Lengths.{bit_quanta}
use Rattle.wl_phase.specs.Answer.{moved_sample, own_sample}
use Rattle.wl_phase.proofs.Hearing.{heard, heard_end}
use Rattle.wl_phase.proofs.laws.the_sender_samples_the_delimiter.Goals as goal

pub returns : goal.returns
returns c = λ s own j seen sender_seen found back d k sender listener book their_book same near time ends is hears silent.
    let answered = c.an_acknowledgement_comes_in_time.ensures s own j seen found back d k sender listener book their_book same near time is in
    let h = heard s own j back d k sender_seen sender.divides book same answered hears in
    let next : own_sample s own (suc d) ≡ own_sample s own d + bit_quanta own = omega arith in
    let inside = h.2.inside in
    let over = c.an_acknowledgement_ends_in_time.ensures s own j seen found back d k h.0 sender listener book their_book same near time ends is h.1 (omega arith) in (
      moved_sample own (own_sample s own d) h.0,
      c.the_next_sample_is_dominant.ensures own sender_seen (own_sample s own d) h.0 book h.2,
      c.the_sample_after_is_recessive.ensures own sender_seen (own_sample s own d) h.0 book h.2
          (heard_end s own j back d k sender_seen sender.divides book same answered hears h.0 h.1 inside over silent),
    )
