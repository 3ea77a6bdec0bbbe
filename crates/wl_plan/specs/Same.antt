-- When two plans are equal: where nodes, topology, disturbances and end are, number by number (this project's profile).
use Rattle.std.specs.Prelude.{◌≡◌, ℕ, ◌==◌, ◌&&◌, Bool, Option, Some, None, refl}
use Rattle.std.proofs.Common.{ap}
use Rattle.std.specs.Bool.{Decides, beq}
use Rattle.std.specs.Option.{option_eq}
use Rattle.std.specs.Cmp.{IsEquivalence, IsPartialEquivalence, decided, partial_equiv_from_equiv, booleans_Decides, unsigned_Decides}
use Rattle.std.specs.Cmp.Lexicographic.{pointwise, pointwise_decides}
use Rattle.std.proofs.lemmas.Bool.Decides.{Decides-and}
use Rattle.wl_topology.specs.declared.Place.{Place}
use Rattle.wl_topology.specs.Delays.{Cable}
use Rattle.wl_topology.specs.Same.{same_place, same_cable}
use Rattle.wl_node.specs.Same.{same_setup, setup_decides}
use Rattle.wl_plan.specs.declared.plan.Disturbance.{Disturbance}
use Rattle.wl_plan.specs.declared.plan.Plan.{Plan}

abbrev pub same_disturbance : Disturbance → Disturbance → Bool
same_disturbance a b = option_eq ◌==◌ a.node b.node && (a.x == b.x && (a.from == b.from && a.to == b.to))

-- the test whether two plans are equal
abbrev pub same_plan : Plan → Plan → Bool
same_plan a b =
    pointwise same_setup a.nodes b.nodes
    && (same_cable a.topology b.topology && (pointwise same_disturbance a.disturbances b.disturbances && a.end == b.end))

-- a test of one fact is a test of another one that says the same
decided_by : {P Q : Type 0} → (x : Bool) → Decides x P → (P → Q) → (Q → P) → Decides x Q
decided_by x d there back = (λ h. there (d.0 h), λ q. d.1 (back q))

place_decides : (a b : Place) → Decides (same_place a b) (a ≡ b)
place_decides a b =
    decided_by (same_place a b)
    (Decides-and (a.x == b.x) (a.out_delay == b.out_delay && (a.in_delay == b.in_delay && beq a.listens b.listens)) (unsigned_Decides a.x b.x)
    (Decides-and (a.out_delay == b.out_delay) (a.in_delay == b.in_delay && beq a.listens b.listens) (unsigned_Decides a.out_delay b.out_delay)
    (Decides-and (a.in_delay == b.in_delay) (beq a.listens b.listens) (unsigned_Decides a.in_delay b.in_delay) (booleans_Decides a.listens b.listens))))
    (λ e i. record { x = e.0 i; out_delay = e.1.0 i; in_delay = e.1.1.0 i; listens = e.1.1.1 i })
    (λ e. (λ i. (e i).x, (λ i. (e i).out_delay, (λ i. (e i).in_delay, λ i. (e i).listens))))

cable_decides : (a b : Cable) → Decides (same_cable a b) (a ≡ b)
cable_decides a b =
    decided_by (same_cable a b)
    (Decides-and (pointwise same_place a.places b.places) (a.per == b.per) (pointwise_decides place_decides a.places b.places) (unsigned_Decides a.per b.per))
    (λ e i. record { places = e.0 i; per = e.1 i })
    (λ e. (λ i. (e i).places, λ i. (e i).per))

node_decides : (a b : Option ℕ) → Decides (option_eq ◌==◌ a b) (a ≡ b)
node_decides None None = (λ e. refl, λ e. refl)
node_decides None (Some n) = (λ e. cc, λ e. cc)
node_decides (Some m) None = (λ e. cc, λ e. cc)
node_decides (Some m) (Some n) = decided_by (m == n) (unsigned_Decides m n) (λ e. ap Some e) (λ e. cc)

pub disturbance_decides : (a b : Disturbance) → Decides (same_disturbance a b) (a ≡ b)
disturbance_decides a b =
    decided_by (same_disturbance a b)
    (Decides-and (option_eq ◌==◌ a.node b.node) (a.x == b.x && (a.from == b.from && a.to == b.to)) (node_decides a.node b.node)
    (Decides-and (a.x == b.x) (a.from == b.from && a.to == b.to) (unsigned_Decides a.x b.x)
    (Decides-and (a.from == b.from) (a.to == b.to) (unsigned_Decides a.from b.from) (unsigned_Decides a.to b.to))))
    (λ e i. record { node = e.0 i; x = e.1.0 i; from = e.1.1.0 i; to = e.1.1.1 i })
    (λ e. (λ i. (e i).node, (λ i. (e i).x, (λ i. (e i).from, λ i. (e i).to))))

pub plan_decides : (a b : Plan) → Decides (same_plan a b) (a ≡ b)
plan_decides a b =
    decided_by (same_plan a b)
    (Decides-and (pointwise same_setup a.nodes b.nodes)
    (same_cable a.topology b.topology && (pointwise same_disturbance a.disturbances b.disturbances && a.end == b.end))
    (pointwise_decides setup_decides a.nodes b.nodes)
    (Decides-and (same_cable a.topology b.topology) (pointwise same_disturbance a.disturbances b.disturbances && a.end == b.end)
    (cable_decides a.topology b.topology)
    (Decides-and (pointwise same_disturbance a.disturbances b.disturbances) (a.end == b.end)
    (pointwise_decides disturbance_decides a.disturbances b.disturbances) (unsigned_Decides a.end b.end))))
    (λ e i. record { nodes = e.0 i; topology = e.1.0 i; disturbances = e.1.1.0 i; end = e.1.1.1 i })
    (λ e. (λ i. (e i).nodes, (λ i. (e i).topology, (λ i. (e i).disturbances, λ i. (e i).end))))

pub same_plan_equiv : IsEquivalence same_plan
same_plan_equiv = decided same_plan plan_decides

pub same_plan_laws : IsPartialEquivalence same_plan
same_plan_laws = partial_equiv_from_equiv same_plan_equiv
