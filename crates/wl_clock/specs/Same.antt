-- When two clocks are equal: where offset and rates are, number by number (this project's profile).
use Rattle.std.specs.Prelude.{◌≡◌, ◌==◌, ◌&&◌, Bool}
use Rattle.std.specs.Bool.{Decides}
use Rattle.std.specs.Cmp.{IsEquivalence, IsPartialEquivalence, decided, partial_equiv_from_equiv, unsigned_Decides}
use Rattle.std.specs.Cmp.Lexicographic.{pointwise, pointwise_decides}
use Rattle.std.proofs.lemmas.Bool.Decides.{Decides-and}
use Rattle.wl_clock.specs.declared.Rate.{Rate}
use Rattle.wl_clock.specs.Timing.{Timing}

abbrev pub same_rate : Rate → Rate → Bool
same_rate a b = a.from == b.from && (a.num == b.num && a.den == b.den)

-- the test whether two clocks are the same
abbrev pub same_timing : Timing → Timing → Bool
same_timing a b = a.offset == b.offset && pointwise same_rate a.rates b.rates

-- a test of one fact is a test of another one that says the same
test_of : {P Q : Type 0} → (x : Bool) → Decides x P → (P → Q) → (Q → P) → Decides x Q
test_of x d there back = (λ h. there (d.0 h), λ q. d.1 (back q))

pub rate_decides : (a b : Rate) → Decides (same_rate a b) (a ≡ b)
rate_decides a b =
    test_of (same_rate a b)
    (Decides-and (a.from == b.from) (a.num == b.num && a.den == b.den) (unsigned_Decides a.from b.from)
    (Decides-and (a.num == b.num) (a.den == b.den) (unsigned_Decides a.num b.num) (unsigned_Decides a.den b.den)))
    (λ e i. record { from = e.0 i; num = e.1.0 i; den = e.1.1 i })
    (λ e. (λ i. (e i).from, (λ i. (e i).num, λ i. (e i).den)))

pub timing_decides : (a b : Timing) → Decides (same_timing a b) (a ≡ b)
timing_decides a b =
    test_of (same_timing a b)
    (Decides-and (a.offset == b.offset) (pointwise same_rate a.rates b.rates) (unsigned_Decides a.offset b.offset)
    (pointwise_decides rate_decides a.rates b.rates))
    (λ e i. record { offset = e.0 i; rates = e.1 i })
    (λ e. (λ i. (e i).offset, λ i. (e i).rates))

pub same_timing_equiv : IsEquivalence same_timing
same_timing_equiv = decided same_timing timing_decides

pub same_timing_laws : IsPartialEquivalence same_timing
same_timing_laws = partial_equiv_from_equiv same_timing_equiv
