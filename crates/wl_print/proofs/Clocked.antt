-- A plan text whose plan can be run has nodes, and each node's clock has a rate with a denominator.
use Rattle.std.proofs.Common.{◌≡◌, ◌∙◌, refl, sym, ap, ℕ, ◌+◌, ◌*◌, ◌==◌, nat_lt, unsigned_abs, min, Bool, true, false, not, List, [], ◌∷◌, map, Option, Some, None, Result, Ok, Err, is_ok, inl, inr, arith}
use Rattle.std.proofs.Math.Nat.{zero-div}
use Rattle.std.proofs.lemmas.Bool.{cases_Bool, false≢true}
use Rattle.std.proofs.lemmas.Bool.Decides.{nat_tests}
use Rattle.std.specs.List.{enumerate_from, list_all}
use Rattle.wl_limits.specs.declared.Limits.{Limits}
use Rattle.wl_limits.specs.Limits.{offset_limit}
use Rattle.wl_clock.specs.Timing.{Timing, largest_deviation, millionths, timing_within}
use Rattle.wl_clock.specs.declared.ClockFault.TheVariants.{BadPpm, BigOffset, NoRates, ZeroDen}
use Rattle.wl_clock.specs.declared.Rate.{Rate}
use Rattle.wl_node.specs.declared.setup.NodeSetup.{NodeSetup}
use Rattle.wl_plan.specs.Checked.{fault_within}
use Rattle.wl_plan.specs.declared.check.PlanFault.{PlanFault}
use Rattle.wl_plan.specs.declared.check.PlanFault.TheVariants.{Nodes}
use Rattle.wl_plan.specs.declared.plan.Plan.{Plan}
use Rattle.wl_units.specs.Ratios.{divided, fraction_with, greatest_common, largest_whole}
use Rattle.wl_setup.specs.declared.fault.SetupFault.{SetupFault}
use Rattle.wl_setup.specs.declared.fault.SetupFault.TheVariants as fault
use Rattle.wl_setup.specs.declared.plan_text.ClockText.{ClockText}
use Rattle.wl_setup.specs.declared.plan_text.ClockText.TheVariants as text
use Rattle.wl_setup.specs.declared.plan_text.NodeText.{NodeText}
use Rattle.wl_setup.specs.declared.plan_text.PlanText.{PlanText}
use Rattle.wl_setup.specs.declared.plan_text.RateText.{RateText}
use Rattle.wl_setup.specs.Names.{names_of}
use Rattle.wl_setup.specs.Plans.{after, cable_of, clock_in, disturbance_in, each, plan_of_text, rate_in, runnable, setup_of, unless_refused, with_fault}
use Rattle.wl_setup.specs.Version.{limits_in, queued_in}
use Rattle.wl_print.specs.Printable.{has_nodes}

abbrev pub lacks_den : ClockText → Bool
lacks_den (text.Rate num den) = den == 0
lacks_den (text.Ppm quantum ppm) = false
lacks_den (text.Fraction num den ppm) = den == 0

-- no rate, or the first has no denominator
abbrev pub is_stopped : List RateText → Bool
is_stopped [] = true
is_stopped (r ∷ rs) = lacks_den r.clock

abbrev pub is_clocked : NodeText → Bool
is_clocked n = not (is_stopped n.rates)

pub no_value_of : {T E : Type 0} {e : E} {x : T} → Err e ≡ Ok x → ⊥
no_value_of h = false≢true (ap is_ok h)

after_made : {T U : Type 0} (r : Result T SetupFault) (make : T → Result U SetupFault) (y : U) → after r make ≡ Ok y → (x : T) × (r ≡ Ok x) × (make x ≡ Ok y)
after_made (Ok x) make y h = (x, refl, h)
after_made (Err e) make y h = absurd (no_value_of h)

with_fault_made : {T E : Type 0} (name : E → SetupFault) (r : Result T E) (y : T) → with_fault name r ≡ Ok y → (x : T) × (r ≡ Ok x)
with_fault_made name (Ok x) y h = (x, refl)
with_fault_made name (Err e) y h = absurd (no_value_of h)

abbrev items_in : {T : Type 0} → Result (List T) SetupFault → List T
items_in (Ok xs) = xs
items_in (Err e) = []

items_made : {T : Type 0} (xs ys : List T) → ◌≡◌ {A = Result (List T) SetupFault} (Ok xs) (Ok ys) → xs ≡ ys
items_made xs ys h = ap items_in h

-- ---- a clock without a rate or a denominator

none_timed : (limits : Limits) (offset : ℕ) (t : Timing) → timing_within limits offset [] ≡ Ok t → ⊥
none_timed limits offset t h = by_offset (nat_lt (offset_limit limits) offset) refl
  where
    far : nat_lt (offset_limit limits) offset ≡ true → timing_within limits offset [] ≡ Err BigOffset
    far is = rw is refl

    near : nat_lt (offset_limit limits) offset ≡ false → timing_within limits offset [] ≡ Err NoRates
    near is = rw is refl

    by_offset : (b : Bool) → nat_lt (offset_limit limits) offset ≡ b → ⊥
    by_offset true is = no_value_of (sym (far is) ∙ h)
    by_offset false is = no_value_of (sym (near is) ∙ h)

no_den_timed : (limits : Limits) (offset : ℕ) (r : Rate) (rs : List Rate) (t : Timing) → r.den ≡ 0 → timing_within limits offset (r ∷ rs) ≡ Ok t → ⊥
no_den_timed limits offset r rs t none h = no_value_of (sym refused ∙ h)
  where
    refused : timing_within limits offset (r ∷ rs) ≡ Err ZeroDen
    refused = rw none refl

divided_none : (g : ℕ) → divided g 0 ≡ 0
divided_none g =
    elim (cases_Bool (g == 0)) [
      | inl none ↦ rw none refl
      | inr some ↦ rw some (zero-div g)
    ]

fraction_none : (num millionths : ℕ) → (fraction_with num 0 millionths).1 ≡ 0
fraction_none num millionths = ap (λ (d : ℕ). min d largest_whole) (divided_none (greatest_common (num * millionths) (0 * 1000000)))

abbrev den_in : Result Rate SetupFault → ℕ
den_in (Ok r) = r.den
den_in (Err e) = 0

zero_from : (den : ℕ) → (den == 0) ≡ true → den ≡ 0
zero_from den is = grind (arith, nat_tests)

no_den_rate : (i from : ℕ) (c : ClockText) (r : Rate) → lacks_den c ≡ true → rate_in i (record { from = from; clock = c }) ≡ Ok r → r.den ≡ 0
no_den_rate i from (text.Rate num den) r lacks h = sym (ap den_in h) ∙ zero_from den lacks
no_den_rate i from (text.Ppm quantum ppm) r lacks h = absurd (false≢true lacks)
no_den_rate i from (text.Fraction num den ppm) r lacks h = by_size (nat_lt largest_deviation (unsigned_abs ppm)) refl
  where
    by_size : (b : Bool) → nat_lt largest_deviation (unsigned_abs ppm) ≡ b → r.den ≡ 0
    by_size true is = absurd (no_value_of (sym (large is) ∙ h))
      where
        large : nat_lt largest_deviation (unsigned_abs ppm) ≡ true → rate_in i (record { from = from; clock = text.Fraction num den ppm }) ≡ Err (fault.NodeClock i BadPpm)
        large is = rw is refl
    by_size false is =
        sym (ap den_in h) ∙ small is ∙ ap (λ (d : ℕ). (fraction_with num d (millionths ppm)).1) (zero_from den lacks) ∙ fraction_none num (millionths ppm)
      where
        small : nat_lt largest_deviation (unsigned_abs ppm) ≡ false → den_in (rate_in i (record { from = from; clock = text.Fraction num den ppm })) ≡ (fraction_with num den (millionths ppm)).1
        small is = rw is refl

rates_run : (limits : Limits) (i offset : ℕ) (rs : List RateText) (rates : List Rate) (u : Timing) → each (rate_in i) rs ≡ Ok rates → timing_within limits offset rates ≡ Ok u
    → not (is_stopped rs) ≡ true
rates_run limits i offset [] rates u made timed =
    absurd (none_timed limits offset u (ap (timing_within limits offset) (items_made [] rates made) ∙ timed))
rates_run limits i offset (r ∷ rs) rates u made timed =
    let (first, one, more) = after_made (rate_in i r) (λ y. after (each (rate_in i) rs) (λ ys. Ok (y ∷ ys))) rates made in
    let (others, rest, whole) = after_made (each (rate_in i) rs) (λ ys. Ok (first ∷ ys)) rates more in
    let is : timing_within limits offset (first ∷ others) ≡ Ok u = ap (timing_within limits offset) (items_made (first ∷ others) rates whole) ∙ timed in
    elim (cases_Bool (lacks_den r.clock)) [
      | inl lacks ↦ absurd (no_den_timed limits offset first others u (no_den_rate i r.from r.clock first lacks one) is)
      | inr has ↦ ap not has
    ]

node_runs : (p : PlanText) (i : ℕ) (node : NodeText) (s : NodeSetup) → setup_of p (i, node) ≡ Ok s → is_clocked node ≡ true
node_runs p i node s h =
    let limits = limits_in p.version in
    let (clock, timed, more) = after_made (clock_in limits i node) _ s h in
    let (rates, made, kept) = after_made (each (rate_in i) node.rates) (λ rates. with_fault (fault.NodeClock i) (timing_within limits node.offset rates)) clock timed in
    let (u, is) = with_fault_made (fault.NodeClock i) (timing_within limits node.offset rates) clock kept in
    rates_run limits i node.offset node.rates rates u made is

nodes_run : (p : PlanText) (k : ℕ) (ns : List NodeText) (ss : List NodeSetup) → each (setup_of p) (enumerate_from k ns) ≡ Ok ss → list_all is_clocked ns ≡ true
nodes_run p k [] ss h = refl
nodes_run p k (n ∷ ns) ss h =
    let (first, one, more) = after_made (setup_of p (k, n)) (λ y. after (each (setup_of p) (enumerate_from (k + 1) ns)) (λ ys. Ok (y ∷ ys))) ss h in
    let (others, rest, whole) = after_made (each (setup_of p) (enumerate_from (k + 1) ns)) (λ ys. Ok (first ∷ ys)) ss more in
    rw (node_runs p k n first one) (nodes_run p (k + 1) ns others rest)

no_nodes_run : (p : PlanText) (plan : Plan) → plan.nodes ≡ [] → runnable p.version plan ≡ Ok plan → ⊥
no_nodes_run p plan none h = no_value_of (sym (refused none) ∙ h)
  where
    refused : plan.nodes ≡ [] → runnable p.version plan ≡ Err (fault.Plan Nodes)
    refused none = rw none refl

runnable_itself : (version : ℕ) (plan made : Plan) → runnable version plan ≡ Ok made → runnable version plan ≡ Ok plan
runnable_itself version plan made h = by_fault (fault_within (limits_in version) (queued_in version) plan) refl
  where
    refused : (r : PlanFault) → fault_within (limits_in version) (queued_in version) plan ≡ Some r → runnable version plan ≡ Err (fault.Plan r)
    refused r is = ap (unless_refused plan) is

    by_fault : (o : Option PlanFault) → fault_within (limits_in version) (queued_in version) plan ≡ o → runnable version plan ≡ Ok plan
    by_fault None is = ap (unless_refused plan) is
    by_fault (Some r) is = absurd (no_value_of (sym (refused r is) ∙ h))

some_nodes : (p : PlanText) (ns : List NodeText) (ss : List NodeSetup) → each (setup_of p) (enumerate_from 0 ns) ≡ Ok ss → (ss ≡ [] → ⊥) → has_nodes ns ≡ true
some_nodes p [] ss h some = absurd (some (sym (items_made [] ss h)))
some_nodes p (n ∷ ns) ss h some = refl

-- a plan text whose plan can be run
pub plan_runs : (p : PlanText) (plan : Plan) → plan_of_text p ≡ Ok plan → (list_all is_clocked p.node ≡ true) × (has_nodes p.node ≡ true)
plan_runs p plan h =
    let (nodes, set, more) = after_made (each (setup_of p) (enumerate_from 0 p.node)) _ plan h in
    let (cable, laid, run) = after_made (cable_of p) _ plan more in
    let whole : Plan = record { nodes = nodes; topology = cable; disturbances = map (disturbance_in (names_of p)) p.disturbance; end = p.end } in (
      nodes_run p 0 p.node nodes set,
      some_nodes p p.node nodes set (λ none. no_nodes_run p whole none (runnable_itself p.version whole plan run)),
    )
