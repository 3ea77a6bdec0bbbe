-- Clocks that keep to their tolerances, each of an oscillator with one rate, keep the pace that the laws ask.
use Rattle.std.proofs.Common.{◌≡◌, ◌∙◌, ℕ, ◌+◌, ◌<◌, ◌==◌, not, Bool, true, false, List, [], ◌∷◌, length, Some, None, Result, Ok, Err, cond, inl, inr, refl, sym, ap, arith}
use Rattle.std.specs.Option.{is_some}
use Rattle.std.proofs.lemmas.Bool.{and_parts, eqb-true, or_cases, false_from_ne_true, not-false}
use Rattle.wl_level.proofs.Callers.{first_none}
use Rattle.wl_clock.specs.declared.ClockFault.{ClockFault}
use Rattle.wl_clock.specs.declared.Rate.{Rate}
use Rattle.wl_clock.specs.Same.{timing_decides}
use Rattle.wl_clock.specs.Timing.{Timing, timing_within}
use Rattle.wl_limits.specs.declared.Limits.TheVariants.{Wide}
use Rattle.wl_topology.specs.Driven.{any_below}
use Rattle.wl_topology.proofs.Callers.{any_from, any_one}
use Rattle.wl_plan.specs.declared.plan.Plan.{Plan}
use Rattle.wl_plan.specs.PlanLine.{setup_at}
use Rattle.wl_setup.specs.declared.bus.Deviation.{Deviation}
use Rattle.wl_bound.specs.Conditions.{plain}
use Rattle.wl_bound.specs.Families.{Buses, longest_in, member_at, shortest_in}
use Rattle.wl_bound.specs.Oscillators.{longest_of, shortest_of}
use Rattle.wl_bound.proofs.Clocks.{rates_are}
use Rattle.wl_margin.specs.Paces.{breaks_pace, deviated, first_stray, has_deviation, has_rate, has_told_rate, is_timing, is_turning, is_tolerated, keep_pace, keeps_pace, keeps_rate, rates_at, stray_by, told_stretch, is_astray, told_millionths, told_quanta, told_rate}

-- a clock that was compared with one rate has it
has_one : (t : Timing) (x : Rate) → is_timing t (timing_within Wide t.offset (x ∷ [])) ≡ true → t.rates ≡ x ∷ []
has_one t x h = compared (timing_within Wide t.offset (x ∷ [])) refl h where
  compared : (r : Result Timing ClockFault) → timing_within Wide t.offset (x ∷ []) ≡ r → is_timing t r ≡ true → t.rates ≡ x ∷ []
  compared (Ok u) e s = (let same : t ≡ u = (timing_decides t u).0 s in ap (λ (v : Timing). v.rates) same ∙ rates_are Wide t.offset (x ∷ []) u e)
  compared (Err fault) e s = cc

shortest_is : (f : Buses) (i : ℕ) → shortest_in f plain i ≡ shortest_of (member_at f i).oscillator 0
unfolding shortest_in
shortest_is f i = omega arith

longest_is : (f : Buses) (i : ℕ) → longest_in f plain i ≡ longest_of (member_at f i).oscillator 0
unfolding longest_in
longest_is f i = omega arith

-- a rate within the tolerance keeps pace
within_keeps : (f : Buses) (i : ℕ) (x : Rate) → is_tolerated (member_at f i).oscillator x ≡ true → keeps_pace f i (x ∷ []) ≡ true
within_keeps f i x h = rw (longest_is f i, shortest_is f i) h

has_kept : (f : Buses) (i : ℕ) (t : Timing) (x : Rate) → has_rate (member_at f i).oscillator t x ≡ true → keeps_pace f i t.rates ≡ true
has_kept f i t x h =
    let both = and_parts (is_timing t (timing_within Wide t.offset (x ∷ []))) (is_tolerated (member_at f i).oscillator x) h in
    rw (has_one t x both.0) (within_keeps f i x both.1)

deviation_keeps : (f : Buses) (i : ℕ) (r : Rate) (t : Timing) → has_deviation (member_at f i).oscillator r t ≡ true → keeps_pace f i t.rates ≡ true
deviation_keeps f i r t h =
    let p = (member_at f i).oscillator in
    let m = told_millionths t r in
    elim (or_cases (has_rate p t (deviated r m)) (has_rate p t (deviated r (m + 1))) h) [
      | inl here ↦ has_kept f i t (deviated r m) here
      | inr next ↦ has_kept f i t (deviated r (m + 1)) next
    ]

told_keeps : (f : Buses) (i : ℕ) (r : Rate) (t : Timing) → has_told_rate (member_at f i).oscillator r t ≡ true → keeps_pace f i t.rates ≡ true
told_keeps f i r t h =
    let p = (member_at f i).oscillator in
    elim (or_cases (has_rate p t (told_rate t)) (has_deviation p r t) h) [
      | inl told ↦ has_kept f i t (told_rate t) told
      | inr other ↦ deviation_keeps f i r t other
    ]

kept : (b : Bool) {T : Type 0} (x : T) → is_some (cond b None (Some x)) ≡ false → b ≡ true
kept true x h = refl
kept false x h = cc

-- by the number of rates of the oscillator
tested : (f : Buses) (i : ℕ) (t : Timing) (rates : List Rate) → not (length rates == 1) ≡ false
    → is_some (stray_by (member_at f i).oscillator t rates) ≡ false → keeps_pace f i t.rates ≡ true
tested f i t [] e s = cc
tested f i t (r ∷ []) e s =
    let p = (member_at f i).oscillator in
    let keeps = kept (keeps_rate p r t) (told_stretch t 0 told_quanta) s in
    elim (or_cases (has_rate p t r) (has_told_rate p r t) keeps) [
      | inl own ↦ has_kept f i t r own
      | inr told ↦ told_keeps f i r t told
    ]
tested f i t (r ∷ q ∷ later) e s = absurd (omega (arith, eqb-true (length (r ∷ q ∷ later)) 1 (not-false (length (r ∷ q ∷ later) == 1) e)))

none_below : (n : ℕ) (p : ℕ → Bool) → any_below n p ≡ false → (i : ℕ) → i < n → p i ≡ false
none_below n p none i less =
    false_from_ne_true (p i) (λ e. (let some = any_from n i p less e in let both : true ≡ false = sym some ∙ none in cc))

pub all_keep : (deviations : List Deviation) (plan : Plan) (f : Buses) → first_stray deviations plan f ≡ None
    → any_below (length plan.nodes) (is_turning deviations) ≡ false → keep_pace plan f ≡ true
all_keep deviations plan f none steady =
    ap not (false_from_ne_true (any_below (length plan.nodes) (breaks_pace plan f))
    (λ some. (let one = any_one (length plan.nodes) (breaks_pace plan f) some in
    let straight = first_none (is_astray deviations plan f) (length plan.nodes) none one.0 one.1 in
    let single = none_below (length plan.nodes) (is_turning deviations) steady one.0 one.1 in
    let keeps = tested f one.0 (setup_at plan one.0).clock (rates_at deviations one.0) single straight in
    let breaks : not (keeps_pace f one.0 (setup_at plan one.0).clock.rates) ≡ true = one.2 in
    cc)))
