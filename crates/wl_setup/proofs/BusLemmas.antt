-- A bus is made exactly where its plan is.
use Rattle.std.proofs.Common.{◌≡◌, ◌∙◌, ℕ, suc, ◌+◌, List, [], ◌∷◌, map, length, Option, Some, None, unwrap_or, Result, Ok, Err, refl, ap, sym}
use Rattle.std.specs.List.{enumerate_from}
use Rattle.wl_plan.specs.declared.plan.Plan.{Plan}
use Rattle.wl_plan.specs.declared.check.PlanFault.{PlanFault}
use Rattle.wl_node.specs.declared.setup.NodeSetup.{NodeSetup}
use Rattle.wl_setup.specs.declared.bus.Deviation.{Deviation}
use Rattle.wl_setup.specs.declared.fault.SetupFault.{SetupFault}
use Rattle.wl_setup.specs.declared.fault.SetupFault.TheVariants as fault
use Rattle.wl_setup.specs.declared.plan_text.PlanText.{PlanText}
use Rattle.wl_setup.specs.declared.plan_text.NodeText.{NodeText}
use Rattle.wl_setup.specs.declared.plan_text.RateText.{RateText}
use Rattle.wl_setup.specs.declared.plan_text.ClockText.{ClockText}
use Rattle.wl_setup.specs.declared.plan_text.ClockText.TheVariants as text
use Rattle.wl_setup.specs.Names.{names_of}
use Rattle.wl_setup.specs.Plans.{after, each, rate_from, rate_in, with_fault, setup_of, cable_of, unless_refused, plan_of_text}
use Rattle.wl_setup.specs.Buses.{nominal, nominal_clock, rates_under, deviation_of, IsOfPlan, BusesAreOfPlans}

-- it is made
abbrev pub IsMade : {T : Type 0} → Result T SetupFault → Type 0
IsMade {T} r = (x : T) × (r ≡ Ok x)

-- what was made of another thing that was made
after-made : {T U : Type 0} (r : Result T SetupFault) (make : T → Result U SetupFault) (u : U) → after r make ≡ Ok u → (x : T) × (r ≡ Ok x) × (make x ≡ Ok u)
after-made (Ok x) make u is = (x, refl, is)
after-made (Err e) make u is = cc

-- one thing is made after another
after-makes : {T U : Type 0} (r : Result T SetupFault) (make : T → Result U SetupFault) (x : T) (u : U) → r ≡ Ok x → make x ≡ Ok u → after r make ≡ Ok u
after-makes r make x u is made = rw is made

-- as many are made as there are
module _ {T U : Type 0} (make : T → Result U SetupFault) where
  one-more : (r : Result U SetupFault) (q : Result (List U) SetupFault) (n : ℕ) → ((zs : List U) → q ≡ Ok zs → length zs ≡ n)
      → (ys : List U) → after r (λ y. after q (λ zs. Ok (y ∷ zs))) ≡ Ok ys → length ys ≡ suc n
  one-more r q n same ys is =
      let first = after-made r (λ y. after q (λ zs. Ok (y ∷ zs))) ys is in
      let rest = after-made q (λ zs. Ok (first.0 ∷ zs)) ys first.2 in
      let are : ys ≡ first.0 ∷ rest.0 = cc in
      rw are (ap suc (same rest.0 rest.1))

  pub each-length : (xs : List T) (ys : List U) → each make xs ≡ Ok ys → length ys ≡ length xs
  each-length [] ys is = let none : ys ≡ [] = cc in rw none refl
  each-length (x ∷ xs) ys is = one-more (make x) (each make xs) (length xs) (each-length xs) ys is

-- each rate is one without its `ppm`
rate-made : (i from : ℕ) (c : ClockText) → IsMade (with_fault (fault.NodeClock i) (rate_from from (nominal_clock c)))
rate-made i from (text.Rate num den) = (_, refl)
rate-made i from (text.Ppm quantum ppm) = (_, refl)
rate-made i from (text.Fraction num den ppm) = (_, refl)

rates-made : (i : ℕ) (rates : List RateText) → IsMade (each (rate_in i) (map nominal rates))
rates-made i [] = ([], refl)
rates-made i (r ∷ rates) =
    let one = rate-made i r.from r.clock in
    let more = rates-made i rates in
    (one.0 ∷ more.0, rw (one.1, more.1) refl)

under-made : (i : ℕ) (tolerance : Option ℕ) (rates : List RateText) → IsMade (each (rate_in i) rates) → IsMade (each (rate_in i) (rates_under tolerance rates))
under-made i None rates made = made
under-made i (Some ppm) rates made = rates-made i rates

-- a node that is made has rates
deviation-made : (plan : PlanText) (i : ℕ) (node : NodeText) (s : NodeSetup) → setup_of plan (i, node) ≡ Ok s → IsMade (deviation_of (i, node))
deviation-made plan i node s is =
    let clock = after-made _ _ s is in
    let rates = after-made (each (rate_in i) node.rates) _ clock.0 clock.1 in
    let under = under-made i node.tolerance node.rates (rates.0, rates.1) in
    (record { rates = under.0; tolerance = unwrap_or node.tolerance 0 }, rw under.1 refl)

deviations-made : (plan : PlanText) (n : ℕ) (nodes : List NodeText) (setups : List NodeSetup) → each (setup_of plan) (enumerate_from n nodes) ≡ Ok setups
    → IsMade (each deviation_of (enumerate_from n nodes))
deviations-made plan n [] setups is = ([], refl)
deviations-made plan n (node ∷ nodes) setups is =
    let first = after-made (setup_of plan (n, node)) _ setups is in
    let rest = after-made (each (setup_of plan) (enumerate_from (n + 1) nodes)) _ setups first.2 in
    let one = deviation-made plan n node first.0 first.1 in
    let more = deviations-made plan (n + 1) nodes rest.0 rest.1 in
    (one.0 ∷ more.0, rw (one.1, more.1) refl)

pub enumerate-length : {T : Type 0} (n : ℕ) (xs : List T) → length (enumerate_from n xs) ≡ length xs
enumerate-length n [] = refl
enumerate-length n (x ∷ xs) = ap suc (enumerate-length (n + 1) xs)

-- a plan that is not refused is the one that was made
ran : (plan made : Plan) (refusal : Option PlanFault) → unless_refused made refusal ≡ Ok plan → made ≡ plan
ran plan made None is = cc
ran plan made (Some fault) is = cc

-- the deviations of a text whose plan is made: as many as the plan has nodes
abbrev pub Deviates : PlanText → Plan → Type 0
Deviates text plan =
    (all : List Deviation) × (each deviation_of (enumerate_from 0 text.node) ≡ Ok all) × (length all ≡ length plan.nodes)
    × (length (names_of text) ≡ length plan.nodes)

deviates : (text : PlanText) (plan : Plan) → plan_of_text text ≡ Ok plan → Deviates text plan
deviates text plan is =
    let nodes = after-made (each (setup_of text) (enumerate_from 0 text.node)) _ plan is in
    let cable = after-made (cable_of text) _ plan nodes.2 in
    let same = ran plan _ _ cable.2 in
    let all = deviations-made text 0 text.node nodes.0 nodes.1 in
    let count = each-length (setup_of text) (enumerate_from 0 text.node) nodes.0 nodes.1 ∙ enumerate-length 0 text.node in
    let counted : length nodes.0 ≡ length plan.nodes = ap (λ p. length p.nodes) same in (
      all.0,
      all.1,
      each-length deviation_of (enumerate_from 0 text.node) all.0 all.1 ∙ enumerate-length 0 text.node ∙ sym count ∙ counted,
      names-length text.node ∙ sym count ∙ counted,
    )
  where
    names-length : (nodes : List NodeText) → length (map (λ node. node.name) nodes) ≡ length nodes
    names-length [] = refl
    names-length (node ∷ nodes) = ap suc (names-length nodes)

of_plan : (text : PlanText) (r : Result Plan SetupFault) → ((plan : Plan) → r ≡ Ok plan → Deviates text plan)
    → IsOfPlan r (after r (λ plan. after (each deviation_of (enumerate_from 0 text.node))
    (λ deviations. Ok (record { plan = plan; names = names_of text; deviations = deviations }))))
of_plan text (Err e) made = refl
of_plan text (Ok plan) made = let d = made plan refl in rw d.1 (refl, d.2, d.3)

pub buses_are_of_plans : BusesAreOfPlans
buses_are_of_plans text = of_plan text (plan_of_text text) (deviates text)

-- a plan that is made has as many nodes as its text has deviations
pub counted : (text : PlanText) (plan : Plan) (all : List Deviation) → plan_of_text text ≡ Ok plan
    → each deviation_of (enumerate_from 0 text.node) ≡ Ok all → length all ≡ length plan.nodes
counted text plan all is made =
    let d = deviates text plan is in
    let same : all ≡ d.0 = cc in rw same d.2
