use Rattle.std.proofs.Common.{◌≡◌, ◌∙◌, ap, ℕ, ◌+◌, ◌-◌, ◌<◌, ◌≤◌, subst, arith}
use Rattle.wl_level.specs.declared.Level.TheVariants.{Dominant}
use Rattle.wl_segments.specs.Lengths.{Lengths, sample_at, bit_quanta}
use Rattle.wl_phase.specs.Ways.{ByTheBook, moved_to}
use Rattle.wl_phase.specs.Answer.{SamplesNext, moved_sample}
use Rattle.wl_buses.proofs.one_frame.laws.a_bit_clock_follows_an_edge.Goals as goal

-- the sample that an edge moves, counted from the place 0 that it moves
same_sample : (l : Lengths) (place found : ℕ) → ByTheBook l → place + sample_at l < found → found ≤ place + sample_at l + bit_quanta l
    → moved_sample l (place + sample_at l) found ≡ moved_to (found - 1) l.sjw (place + bit_quanta l) + sample_at l
same_sample l place found book later inside =
    let long = book.lengths.low in
    let jump = book.lengths.sjw_half in
    let a = book.lengths.prop_low in
    let b = book.lengths.ps1_low in
    let order : place + sample_at l + bit_quanta l ≡ place + bit_quanta l + sample_at l = omega arith in
    ap (λ n. found + moved_to (sample_at l - 1) l.sjw (n - found)) order
    ∙ shifted (place + bit_quanta l) found (sample_at l) l.sjw (omega arith) (omega arith) (omega arith) (omega arith)
  where
    shifted : (due f at jump : ℕ) → jump ≤ due → 1 ≤ at → 1 ≤ f → f ≤ due + at
        → f + moved_to (at - 1) jump (due + at - f) ≡ moved_to (f - 1) jump due + at
    shifted due f at jump h one some inside = omega arith

pub returns : goal.returns
returns c = λ l seen place found book finds.
    subst (λ m. SamplesNext l seen (place + sample_at l) m Dominant) (same_sample l place found book finds.later finds.inside)
    (c.the_next_sample_is_dominant.ensures l seen (place + sample_at l) found book finds)
