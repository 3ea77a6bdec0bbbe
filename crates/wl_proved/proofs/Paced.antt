-- A plan of a family as the laws below have it: clocks of one rate, by the book, with frames.
use Rattle.std.proofs.Common.{◌≡◌, ◌∙◌, refl, sym, ap, subst, inl, inr, ℕ, ◌*◌, ◌<◌, ◌≤◌, List, [], ◌∷◌, length, true, false, not, Option, Some, None, arith}
use Rattle.std.specs.Prelude.{◌==◌, nat_lt}
use Rattle.std.proofs.lemmas.Bool.{and_parts, cases_eq, eqb-true, leb-true, ltb-true, not-false, not-true}
use Rattle.std.proofs.lemmas.List.Elements.{All-get_or}
use Rattle.wl_level.proofs.Callers.{first_none}
use Rattle.wl_clock.specs.declared.Rate.{Rate}
use Rattle.wl_clock.specs.Timing.{IsTiming, Timing, in_order}
use Rattle.wl_segments.specs.declared.SyncRules.{SyncRules}
use Rattle.wl_segments.specs.declared.SyncRules.TheVariants.{After, Book}
use Rattle.wl_topology.specs.Driven.{any_below}
use Rattle.wl_topology.proofs.Callers.{any_one}
use Rattle.wl_node.specs.declared.setup.Queued.{Queued}
use Rattle.wl_plan.specs.Checked.{IsChecked}
use Rattle.wl_plan.specs.declared.plan.Plan.{Plan}
use Rattle.wl_plan.specs.PlanLine.{no_setup, setup_at}
use Rattle.wl_phase.specs.Clocks.{HasRate, Steady}
use Rattle.wl_bound.specs.Conditions.{first_failure_of, plain}
use Rattle.wl_bound.specs.Families.{Buses, longest_in, shortest_in, units}
use Rattle.wl_bound.specs.Verdicts.{at_node, for_any, for_one, has_frames, is_after, outside_of, sends_something, unless_outside, verdict_of, without_book}
use Rattle.wl_bound.specs.declared.condition.Senders.TheVariants.{Any, One}
use Rattle.wl_bound.specs.declared.verdict.Outside.{Outside}
use Rattle.wl_bound.specs.declared.verdict.Outside.TheVariants.{NotByTheBook}
use Rattle.wl_bound.specs.declared.verdict.Verdict.TheVariants.{ForAny}
use Rattle.wl_margin.specs.Paces.{breaks_pace, keep_pace, keeps_pace}
use Rattle.wl_buses.specs.BothProofs.Plans.{IsOfFamily}
use Rattle.wl_buses.proofs.Callers.{none_below, no_cause, neither}
use Rattle.wl_proved.specs.PlansOfFamily.{IsPlanOfFamily, SendsAlone}

-- the first rate of some
abbrev pub num_of : List Rate → ℕ
num_of [] = 0
num_of (r ∷ later) = r.num

abbrev pub den_of : List Rate → ℕ
den_of [] = 1
den_of (r ∷ later) = r.den

-- one rate, and what is asked of it
pub record HasPace (f : Buses) (i : ℕ) (rates : List Rate) : Type 0 where
  pub rate : Rate
  pub one : rates ≡ rate ∷ []
  pub slowest : units plain * num_of rates ≤ longest_in f plain i * den_of rates
  pub fastest : shortest_in f plain i * den_of rates ≤ units plain * num_of rates

pub has_pace : (f : Buses) (i : ℕ) (rates : List Rate) → keeps_pace f i rates ≡ true → HasPace f i rates
has_pace f i [] keeps = cc
has_pace f i (r ∷ []) keeps =
    let parts = and_parts _ _ keeps in record {
      rate = r;
      one = refl;
      slowest = leb-true (units plain * r.num) (longest_in f plain i * r.den) parts.0;
      fastest = leb-true (shortest_in f plain i * r.den) (units plain * r.num) parts.1;
    }
has_pace f i (r ∷ next ∷ later) keeps = cc

from_first : (rates : List Rate) (r : Rate) → rates ≡ r ∷ [] → in_order rates ≡ true → r.from ≡ 0
from_first rates r one order = eqb-true r.from 0 (and_parts (r.from == 0) true (ap in_order (sym one) ∙ order)).0

-- a clock of one rate
one_rate : (t : Timing) (r : Rate) → t.rates ≡ r ∷ [] → in_order t.rates ≡ true
    → HasRate t (record { offset = t.offset; part = 0; num = num_of t.rates; den = den_of t.rates })
one_rate t r one order =
    let from = from_first t.rates r one order in
    let num : r.num ≡ num_of t.rates = sym (ap num_of one) in
    let den : r.den ≡ den_of t.rates = sym (ap den_of one) in
    let rate : r ∷ [] ≡ record { from = 0; num = num_of t.rates; den = den_of t.rates } ∷ [] = λ k. record { from = from k; num = num k; den = den k } ∷ [] in
    record { timing = λ k. record { offset = t.offset; rates = (one ∙ rate) k }; whole = refl }

by_book : (rules : SyncRules) → is_after rules ≡ false → rules ≡ Book
by_book After e = cc
by_book Book e = refl

pub nothing_at : (name : ℕ → Outside) (o : Option ℕ) → at_node name o ≡ None → o ≡ None
nothing_at name None e = refl
nothing_at name (Some i) e = cc

not_empty : {A : Type 0} (xs : List A) → 0 < length xs → (x : A) × (more : List A) × (xs ≡ x ∷ more)
not_empty [] some = absurd (omega arith)
not_empty (x ∷ more) some = (x, more, refl)

-- the clocks of a plan, if each has one rate
abbrev pub clocks_of : Plan → ℕ → Steady
clocks_of plan i = record {
  offset = (setup_at plan i).clock.offset;
  part = 0;
  num = num_of (setup_at plan i).clock.rates;
  den = den_of (setup_at plan i).clock.rates;
}

pub rate_at : (f : Buses) (plan : Plan) → IsChecked plan → (i : ℕ) → i < length plan.nodes → HasPace f i (setup_at plan i).clock.rates → HasRate (setup_at plan i).clock (clocks_of plan i)
rate_at f plan checked i inside pace =
    one_rate (setup_at plan i).clock pace.rate pace.one (All-get_or (λ node. IsTiming node.clock) plan.nodes i no_setup inside checked.clocks).order

-- what the condition is about goes by the book
pub book_at : (plan : Plan) → outside_of plan ≡ None → (i : ℕ) → i < length plan.nodes → (setup_at plan i).segments.sync ≡ Book
book_at plan none i inside =
    let few = no_cause (nat_lt (length plan.nodes) 2) _ _ none in
    let empty = no_cause (not (any_below (length plan.nodes) (sends_something plan))) _ _ few.1 in
    let listeners = neither _ _ empty.1 in
    let not_book = neither _ _ listeners.1 in
    by_book (setup_at plan i).segments.sync
    (first_none (without_book plan) (length plan.nodes) (nothing_at NotByTheBook _ not_book.0) i inside)

pub verdict_at : (f : Buses) (plan : Plan) → outside_of plan ≡ None → first_failure_of f plain Any ≡ None → verdict_of plan f ≡ ForAny
verdict_at f plan none sound =
    ap (λ o. unless_outside o (for_any (first_failure_of f plain Any) (for_one (first_failure_of f plain One)))) none
    ∙ ap (λ failure. for_any failure (for_one (first_failure_of f plain One))) sound

-- how fast each clock of a plan goes, if all keep pace
pub paces_at : (f : Buses) (plan : Plan) → keep_pace plan f ≡ true → (i : ℕ) → i < length plan.nodes → HasPace f i (setup_at plan i).clock.rates
paces_at f plan pace i inside = has_pace f i (setup_at plan i).clock.rates (not-false _ (none_below (length plan.nodes) (breaks_pace plan f) (not-true _ pace) i inside))

module _ (f : Buses) (plan : Plan) (of : IsPlanOfFamily f plan) where
  abbrev pub clocks : ℕ → Steady
  clocks = clocks_of plan

  pace_at : (i : ℕ) → i < length plan.nodes → HasPace f i (setup_at plan i).clock.rates
  pace_at i inside = paces_at f plan of.pace i inside

  pub rates : (i : ℕ) → i < length plan.nodes → HasRate (setup_at plan i).clock (clocks i)
  rates i inside = rate_at f plan of.runs.checked i inside (pace_at i inside)

  pub of_family : IsOfFamily f plan clocks
  of_family = record {
    cable = of.cable;
    members = of.members;
    segments = of.segments;
    slowest = λ i inside. (pace_at i inside).slowest;
    fastest = λ i inside. (pace_at i inside).fastest;
  }

  pub book : (i : ℕ) → i < length plan.nodes → (setup_at plan i).segments.sync ≡ Book
  book i inside = book_at plan of.inside i inside

  -- some node has frames
  some_sender : (i : ℕ) × (i < length plan.nodes) × (has_frames (setup_at plan i) ≡ true)
  some_sender =
      let few = no_cause (nat_lt (length plan.nodes) 2) _ _ of.inside in
      let empty = no_cause (not (any_below (length plan.nodes) (sends_something plan))) _ _ few.1 in
      any_one (length plan.nodes) (sends_something plan) (not-false _ empty.0)

  pub for_any_senders : first_failure_of f plain Any ≡ None → verdict_of plan f ≡ ForAny
  for_any_senders sound = verdict_at f plan of.inside sound

  -- it is the one that sends alone
  module _ (sender : ℕ) (alone : SendsAlone plan sender) where
    is_sender : (i : ℕ) → has_frames (setup_at plan i) ≡ true → i ≡ sender
    is_sender i has = elim (cases_eq i sender) [
      | inl same ↦ same
      | inr other ↦ (let none = ap length (alone i other) in let some = ltb-true 0 (length (setup_at plan i).queue) has in absurd (omega arith))
    ]

    pub has : has_frames (setup_at plan sender) ≡ true
    has = let some = some_sender in subst (λ i. has_frames (setup_at plan i) ≡ true) (is_sender some.0 some.2) some.2

    pub node : sender < length plan.nodes
    node = let some = some_sender in subst (λ i. i < length plan.nodes) (is_sender some.0 some.2) some.1

    pub waiting : (first : Queued) × (later : List Queued) × ((setup_at plan sender).queue ≡ first ∷ later)
    waiting = not_empty (setup_at plan sender).queue (ltb-true 0 (length (setup_at plan sender).queue) has)
