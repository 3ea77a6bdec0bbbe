-- The plans of a family.
use Rattle.std.proofs.Common.{◌≡◌, ◌∙◌, refl, sym, ap, ℕ, zero, suc, ◌+◌, ◌-◌, ◌*◌, ◌/◌, ◌<◌, ◌≤◌, List, [], ◌∷◌, length, arith}
use Rattle.std.specs.Int.{div_ceil}
use Rattle.std.proofs.lemmas.Grind.{div_ceil_times}
use Rattle.std.proofs.Math.Nat.{div-mul-le_self, mul-le-mul_right, le_of_mul-le-mul_right}
use Rattle.wl_node.specs.declared.setup.NodeSetup.{NodeSetup}
use Rattle.wl_plan.specs.declared.plan.Plan.{Plan}
use Rattle.wl_plan.specs.PlanLine.{no_setup}
use Rattle.wl_phase.specs.Clocks.{Steady}
use Rattle.wl_bound.specs.Conditions.{plain}
use Rattle.wl_bound.specs.Families.{Buses, family_of, longest_in, member_at, members_of, no_member, shortest_in, units}
use Rattle.wl_bound.specs.Oscillators.{IsPace, Pace, longest_of, shortest_of}
use Rattle.wl_buses.specs.OneSender.Clean.{IsAlike, KeepsPace}
use Rattle.wl_buses.specs.BothProofs.Plans.{IsOfFamily}
use Rattle.std.specs.Prelude.{slice_index_or}

segments_are : (nodes : List NodeSetup) (paces : List Pace) → length (members_of nodes paces) ≡ length nodes → (i : ℕ) → i < length nodes
    → (slice_index_or (members_of nodes paces) i no_member).segments ≡ (slice_index_or nodes i no_setup).segments
segments_are [] paces e i h = absurd (omega arith)
segments_are (node ∷ nodes) [] e i h = absurd (omega arith)
segments_are (node ∷ nodes) (pace ∷ paces) e zero h = refl
segments_are (node ∷ nodes) (pace ∷ paces) e (suc i) h = segments_are nodes paces (omega arith) i (omega arith)

-- what is divided and rounded down, multiplied again, is no more, and rounded up no less
rounded_down : (a b num den : ℕ) → 0 < b → a * den ≤ 1000000 * num * b → a / b * den ≤ 1000000 * num
rounded_down a b num den some h =
    let down : a / b * b * den ≤ a * den = mul-le-mul_right den (div-mul-le_self a b) in
    let whole : a / b * den * b ≤ 1000000 * num * b = omega arith in
    le_of_mul-le-mul_right whole some

rounded_up : (a b num den : ℕ) → 0 < b → 1000000 * num * b ≤ a * den → 1000000 * num ≤ div_ceil a b * den
rounded_up a b num den some h =
    let up : a * den ≤ div_ceil a b * b * den = mul-le-mul_right den (div_ceil_times a b some).0 in
    let whole : 1000000 * num * b ≤ div_ceil a b * den * b = omega arith in
    le_of_mul-le-mul_right whole some

none_wider : (n t : ℕ) → n * (1000000 + (t + 0)) ≡ n * (1000000 + t)
none_wider n t = omega arith

none_narrower : (n t : ℕ) → n * (1000000 - (t + 0)) ≡ n * (1000000 - t)
none_narrower n t = ap (λ m. n * (1000000 - m)) (none t)
  where
    none : (t : ℕ) → t + 0 ≡ t
    none t = omega arith

longest_is : (p : Pace) (c : Steady) → IsPace p → KeepsPace p c → 1000000 * c.num ≤ longest_of p 0 * c.den
longest_is p c is keeps =
    let same : p.slowest.num * (1000000 + (p.tolerance + 0)) * c.den ≡ p.slowest.num * (1000000 + p.tolerance) * c.den
    = ap (λ n. n * c.den) (none_wider p.slowest.num p.tolerance) in
    let most : 1000000 * c.num * p.slowest.den ≤ p.slowest.num * (1000000 + p.tolerance) * c.den = keeps.slowest in
    rounded_up (p.slowest.num * (1000000 + (p.tolerance + 0))) p.slowest.den c.num c.den is.slowest.divides (omega arith)

shortest_is : (p : Pace) (c : Steady) → IsPace p → KeepsPace p c → shortest_of p 0 * c.den ≤ 1000000 * c.num
shortest_is p c is keeps =
    let same : p.fastest.num * (1000000 - (p.tolerance + 0)) * c.den ≡ p.fastest.num * (1000000 - p.tolerance) * c.den
    = ap (λ n. n * c.den) (none_narrower p.fastest.num p.tolerance) in
    let least : p.fastest.num * (1000000 - p.tolerance) * c.den ≤ 1000000 * c.num * p.fastest.den = keeps.fastest in
    rounded_down (p.fastest.num * (1000000 - (p.tolerance + 0))) p.fastest.den c.num c.den is.fastest.divides (omega arith)

one_is : (n : ℕ) → 1 * n ≡ n
one_is n = omega arith

slowest_is : (f : Buses) (i : ℕ) (c : Steady) → IsPace (member_at f i).oscillator → KeepsPace (member_at f i).oscillator c
    → units plain * c.num ≤ longest_in f plain i * c.den
unfolding longest_in
slowest_is f i c is keeps =
    let all : units plain * c.num ≡ 1000000 * c.num = refl in
    let whole : longest_in f plain i * c.den ≡ longest_of (member_at f i).oscillator 0 * c.den
    = ap (λ n. n * c.den) (one_is (longest_of (member_at f i).oscillator 0)) in
    let up : 1000000 * c.num ≤ longest_of (member_at f i).oscillator 0 * c.den = longest_is (member_at f i).oscillator c is keeps in
    omega arith

fastest_is : (f : Buses) (i : ℕ) (c : Steady) → IsPace (member_at f i).oscillator → KeepsPace (member_at f i).oscillator c
    → shortest_in f plain i * c.den ≤ units plain * c.num
unfolding shortest_in
fastest_is f i c is keeps =
    let all : units plain * c.num ≡ 1000000 * c.num = refl in
    let whole : shortest_in f plain i * c.den ≡ shortest_of (member_at f i).oscillator 0 * c.den
    = ap (λ n. n * c.den) (one_is (shortest_of (member_at f i).oscillator 0)) in
    let down : shortest_of (member_at f i).oscillator 0 * c.den ≤ 1000000 * c.num = shortest_is (member_at f i).oscillator c is keeps in
    omega arith

pub own : (plan : Plan) (paces : List Pace) (clocks : ℕ → Steady) → length (members_of plan.nodes paces) ≡ length plan.nodes
    → ((i : ℕ) → i < length plan.nodes → IsPace (member_at (family_of plan paces) i).oscillator)
    → ((i : ℕ) → i < length plan.nodes → KeepsPace (member_at (family_of plan paces) i).oscillator (clocks i))
    → IsOfFamily (family_of plan paces) plan clocks
own plan paces clocks e are keep = record {
  cable = refl;
  members = e;
  segments = segments_are plan.nodes paces e;
  slowest = λ i h. slowest_is (family_of plan paces) i (clocks i) (are i h) (keep i h);
  fastest = λ i h. fastest_is (family_of plan paces) i (clocks i) (are i h) (keep i h);
}

pub others : (f : Buses) (plan other : Plan) (clocks moved : ℕ → Steady) → IsOfFamily f plan clocks → IsAlike plan other clocks moved
    → IsOfFamily f other moved
others f plan other clocks moved of alike = record {
  cable = alike.cable ∙ of.cable;
  members = of.members ∙ sym alike.nodes;
  segments = λ i h. of.segments i (same i h) ∙ sym (alike.segments i (same i h));
  slowest = λ i h. slow i (same i h);
  fastest = λ i h. fast i (same i h);
}
  where
    same : (i : ℕ) → i < length other.nodes → i < length plan.nodes
    same i h = let e = alike.nodes in omega arith

    slow : (i : ℕ) → i < length plan.nodes → units plain * (moved i).num ≤ longest_in f plain i * (moved i).den
    slow i h =
        let num : units plain * (moved i).num ≡ units plain * (clocks i).num = ap (λ n. units plain * n) (alike.num i h) in
        let den : longest_in f plain i * (moved i).den ≡ longest_in f plain i * (clocks i).den = ap (λ n. longest_in f plain i * n) (alike.den i h) in
        let s = of.slowest i h in
        omega arith

    fast : (i : ℕ) → i < length plan.nodes → shortest_in f plain i * (moved i).den ≤ units plain * (moved i).num
    fast i h =
        let num : units plain * (moved i).num ≡ units plain * (clocks i).num = ap (λ n. units plain * n) (alike.num i h) in
        let den : shortest_in f plain i * (moved i).den ≡ shortest_in f plain i * (clocks i).den = ap (λ n. shortest_in f plain i * n) (alike.den i h) in
        let s = of.fastest i h in
        omega arith
