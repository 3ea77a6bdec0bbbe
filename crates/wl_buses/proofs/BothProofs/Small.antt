-- Small lemmas that both proofs use: of tests and numbers, of cables and clocks, and of a dominant sample.
use Rattle.std.proofs.Common.{◌≡◌, ◌≢◌, refl, ap, ℕ, suc, ◌+◌, ◌*◌, ◌<◌, ◌≤◌, Bool, true, false, cond, not, ◌&&◌, ◌||◌, None, arith, length, subst}
use Rattle.std.specs.Prelude.{◌==◌, nat_lt}
use Rattle.std.specs.Int.{abs_diff}
use Rattle.std.proofs.lemmas.Bool.{and_right, eq-eqb, false_from_ne_true, not-true, or_parts}
use Rattle.std.proofs.lemmas.List.Elements.{All-get_or}
use Rattle.std.proofs.Math.Nat.{lt_of_mul-lt-mul_left, mul-le-mul_left, mul-le-mul_right}
use Rattle.wl_level.specs.declared.Level.{Level}
use Rattle.wl_level.specs.declared.Level.TheVariants.{Dominant, Recessive}
use Rattle.wl_level.specs.Levels.{is_dominant, level_of}
use Rattle.wl_clock.specs.Timing.{IsRate, IsTiming}
use Rattle.wl_topology.specs.Delays.{Cable, place_at, propagation_of}
use Rattle.wl_topology.specs.Driven.{any_below}
use Rattle.wl_topology.proofs.Callers.{any_from}
use Rattle.wl_sync.specs.declared.Seen.{Seen}
use Rattle.wl_sync.specs.Running.{Running}
use Rattle.wl_sync.specs.Steps.{running_sync}
use Rattle.wl_plan.specs.declared.plan.Plan.{Plan}
use Rattle.wl_plan.specs.Checked.{IsChecked}
use Rattle.wl_plan.specs.PlanLine.{no_setup, setup_at}
use Rattle.wl_phase.specs.Clocks.{HasRate, IsSteady, Steady, steady_tick, steady_timing}
use Rattle.wl_phase.proofs.Callers.{floor_high}
use Rattle.wl_bound.specs.Covered.{finds_one_busy, is_covered, is_uncovered, leaves}
use Rattle.wl_bound.specs.Families.{only_listens}
use Rattle.wl_bound.specs.Terms.{greatest}
use Rattle.wl_bound.proofs.Greatest.{bounds_each}
use Rattle.wl_bound.proofs.Sound.{is_none_of}
use Rattle.wl_segments.specs.Lengths.{AreLengths}

-- none passes where no number below n does
pub none_below : (n : ℕ) (test : ℕ → Bool) → any_below n test ≡ false → (k : ℕ) → k < n → test k ≡ false
none_below n test e k less = false_from_ne_true (test k) (λ passes. (let some = any_from n k test less passes in cc))

-- each is the greatest at most
pub greatest_each : (n : ℕ) (test : ℕ → Bool) (f : ℕ → ℕ) (k : ℕ) → k < n → test k ≡ true → f k ≤ greatest n test f
greatest_each n test f k less e = bounds_each n test f (greatest n test f) (omega arith) k less e

pub or_not : (x y : Bool) → y ≡ false → (x || not y) ≡ true
or_not true y e = refl
or_not false y e = ap not e

pub distinct : (k i : ℕ) → not (k == i) ≡ true → k ≢ i
distinct k i e same = (let f = eq-eqb k i same in let g : not (k == i) ≡ false = ap not f in cc)

-- on a cable no way over a third node's loop is shorter
pub loop_over : (cable : Cable) (i j k : ℕ) → propagation_of cable i k + propagation_of cable j j ≤ propagation_of cable i j + propagation_of cable j k
loop_over cable i j k =
    let here : abs_diff (place_at cable j).x (place_at cable j).x ≡ 0 = omega arith in
    let none : abs_diff (place_at cable j).x (place_at cable j).x * cable.per ≡ 0 * cable.per = ap (λ n. n * cable.per) here in
    let way : abs_diff (place_at cable i).x (place_at cable k).x * cable.per ≤ (abs_diff (place_at cable i).x (place_at cable j).x + abs_diff (place_at cable j).x (place_at cable k).x) * cable.per =
    mul-le-mul_right cable.per (omega arith) in
    let sum : (abs_diff (place_at cable i).x (place_at cable j).x + abs_diff (place_at cable j).x (place_at cable k).x) * cable.per
    ≡ abs_diff (place_at cable i).x (place_at cable j).x * cable.per + abs_diff (place_at cable j).x (place_at cable k).x * cable.per = omega arith in
    omega arith

-- a clock of a checked plan that has one rate is steady, and segments of one are sound
pub steady_at : (plan : Plan) → IsChecked plan → (i : ℕ) → i < length plan.nodes → (r : Steady) → HasRate (setup_at plan i).clock r → IsSteady r
steady_at plan is i less r has =
    let timing = subst IsTiming has.timing (All-get_or (λ node. IsTiming node.clock) plan.nodes i no_setup less is.clocks) in
    let rate = All-get_or IsRate (steady_timing r).rates 0 (record { from = 0; num = 1; den = 1 }) (omega arith) timing.rates in
    record { divides = rate.divides; not_fast = rate.not_fast }

pub lengths_at : (plan : Plan) → IsChecked plan → (i : ℕ) → i < length plan.nodes → AreLengths (setup_at plan i).segments
lengths_at plan is i less = All-get_or (λ node. AreLengths node.segments) plan.nodes i no_setup less is.segments

pub level_same : (v : Level) → level_of (is_dominant v) ≡ v
level_same Dominant = refl
level_same Recessive = refl

-- nothing synchronises after a dominant sample
pub sampled_dominant : (r : Running) (x : Seen) → r.sample ≡ Dominant → running_sync r x ≡ false
sampled_dominant r x e =
    let g : ((is_dominant x.level && not (is_dominant r.level)) && not (is_dominant r.sample)) ≡ false = and_right _ _ (ap (λ v. not (is_dominant v)) e) in
    rw g refl

-- a quantum takes a tick or more
pub ticks_up : (c : Steady) → IsSteady c → (q : ℕ) → q ≤ steady_tick c q
ticks_up c steady q =
    let fast = steady.not_fast in
    let high = floor_high c q steady.divides in
    let m : q * c.den ≤ q * c.num = mul-le-mul_left q fast in
    let less : c.den * q < c.den * suc (steady_tick c q) = omega arith in
    let h = lt_of_mul-lt-mul_left c.den less in
    omega arith

pub zero_first : (m n : ℕ) → 0 + m + n ≡ m + n
zero_first m n = omega arith

-- what passes the test for covered plans is past both of its refusals
pub passed : (v w : Bool) → cond v false (not w) ≡ true → (v ≡ false) × (w ≡ false)
passed false w e = (refl, not-true w e)
passed true w e = cc

-- and each node of it speaks, stays on the bus, and finds no other one busy
pub covered_each : (plan : Plan) → is_covered plan ≡ true → (i : ℕ) → i < length plan.nodes
    → (only_listens plan.topology i ≡ false) × (leaves plan i ≡ false) × (finds_one_busy plan i ≡ false)
covered_each plan covered i less =
    let refusals = passed (nat_lt (length plan.nodes) 2 || nat_lt 0 (length plan.disturbances)) (any_below (length plan.nodes) (is_uncovered plan)) covered in
    let each = or_parts (only_listens plan.topology i) (leaves plan i || finds_one_busy plan i) (none_below (length plan.nodes) (is_uncovered plan) refusals.1 i less) in
    let rest = or_parts (leaves plan i) (finds_one_busy plan i) each.1 in
    (each.0, rest.0, rest.1)

pub covered_stays : (plan : Plan) → is_covered plan ≡ true → (i : ℕ) → i < length plan.nodes → (setup_at plan i).until ≡ None
covered_stays plan covered i less = is_none_of (setup_at plan i).until (covered_each plan covered i less).1
