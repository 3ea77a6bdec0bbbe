-- The nodes of a family's plan as stations.
use Rattle.std.proofs.Common.{◌≡◌, ◌∙◌, refl, sym, ap, ℕ, ◌*◌, ◌<◌, cond, not, length, arith}
use Rattle.std.specs.Prelude.{◌==◌}
use Rattle.std.proofs.lemmas.Bool.{and_left}
use Rattle.wl_topology.specs.Delays.{delay_of, place_at, propagation_of}
use Rattle.wl_topology.specs.Limits.{never}
use Rattle.wl_phase.specs.Clocks.{Steady}
use Rattle.wl_plan.specs.declared.plan.Plan.{Plan}
use Rattle.wl_plan.specs.PlanLine.{setup_at}
use Rattle.wl_bound.specs.Conditions.{plain}
use Rattle.wl_bound.specs.Families.{Buses, delay_in, lengths_in, only_listens, units}
use Rattle.wl_bound.specs.Rooms.{plain_bus}
use Rattle.wl_buses.specs.BothProofs.Plans.{IsOfFamily, IsSteadyPlan}
use Rattle.wl_buses.specs.OneFrame.Bounds.{HasStations}
use Rattle.wl_buses.specs.OneFrame.Plans.{IsPlanOf}
use Rattle.wl_buses.specs.FamilyPlans.FamilyStations.{NoneListens, stations_of}

module _ (f : Buses) (plan : Plan) (clocks : ℕ → Steady) (of : IsOfFamily f plan clocks) (speak : NoneListens plan) where
  lengths_are : (i : ℕ) → i < length plan.nodes → lengths_in f plain i ≡ (setup_at plan i).segments
  unfolding lengths_in
  lengths_are i ni = of.segments i ni

  pub is_plan : IsSteadyPlan plan clocks → IsPlanOf plan (stations_of f plan clocks)
  is_plan steady = record {
    checked = steady.checked;
    count = refl;
    rates = steady.rates;
    lengths = lengths_are;
    book = steady.book;
    delays = λ i k ni nk. refl;
    stays = steady.stays;
    speaks = speak;
  }

  -- each node is heard a way along the cable later
  heard : (i k : ℕ) → i < length plan.nodes → delay_of plan.topology i k ≡ propagation_of f.cable i k
  heard i k ni =
      ap (λ v. cond v never (propagation_of plan.topology i k)) (and_left ((place_at plan.topology i).listens) (not (i == k)) (speak i ni))
      ∙ ap (λ cable. propagation_of cable i k) of.cable

  delays_are : (i k : ℕ) → i < length plan.nodes → delay_in f plain i k ≡ delay_of plan.topology i k * units plain
  unfolding delay_in
  delays_are i k ni = let e = heard i k ni in omega arith

  pub is_bus : HasStations (plain_bus f) (stations_of f plan clocks)
  is_bus = record {
    nodes = of.members;
    some = omega arith;
    slowest = of.slowest;
    fastest = of.fastest;
    lengths = λ i. refl;
    delays = λ i k ni nk. delays_are i k ni;
    ways = λ i k ni nk. refl;
    sends = λ i ni. refl;
    answers = λ i ni may. ap (λ cable. only_listens cable i) (sym of.cable) ∙ speak i ni;
  }
