-- Behind the recessive sample of a bit that nothing moved.
use Rattle.std.proofs.Common.{◌≡◌, ◌∙◌, suc, ◌+◌, ◌-◌, sym, ap, subst, arith}
use Rattle.wl_segments.specs.Lengths.{AreLengths, sample_at, bit_quanta}
use Rattle.wl_sync.specs.Running.{Running, clock_after}
use Rattle.wl_sync.specs.Skips.{steady_clock, IsRestingBit}
use Rattle.wl_sync.proofs.Rests.{rests}
use Rattle.wl_sync.proofs.BitClock.resting_bit.Goals as goal

pub returns-then-is_steady-clause-rests : goal.returns-then-is_steady-clause-rests
returns-then-is_steady-clause-rests c n f l past e x level =
    let lengths : c.args.self.now.lengths ≡ l = ap (λ (r : Running). r.lengths) e in
    let are : AreLengths l = subst AreLengths lengths c.bit_quanta.ensures.lengths in
    let quanta : c.bit_quanta.result ≡ bit_quanta l = c.bit_quanta.ensures.quanta ∙ ap bit_quanta lengths in
    let same : c.bit_quanta.result ≡ n = cc in
    let steady : clock_after l past ≡ steady_clock l = sym e ∙ c.is_steady.ensures.0 c.if-is_steady.true ∙ ap steady_clock lengths in
    let low = are.ps2_low in
    subst (IsRestingBit l past x) (let g : suc (sample_at l + l.ps2 - 1) ≡ n = omega arith in g)
    (rests l are past x level steady (sample_at l + l.ps2 - 1) (omega arith))
