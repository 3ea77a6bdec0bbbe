-- A plan of three nodes, of which the second only listens and begins at tick 1, and the plan of the other two.
use Rattle.std.proofs.Common.{◌≡◌, ◌⊎◌, inl, inr, refl, ℕ, zero, suc, ◌+◌, ◌*◌, ◌==◌, ◌<◌, ◌≤◌, not, true, false, [], ◌∷◌, arith}
use Rattle.wl_clock.specs.Timing.{tick_of}
use Rattle.wl_node.specs.declared.setup.NodeSetup.{NodeSetup}
use Rattle.wl_node.specs.Quiet.{quiet_of}
use Rattle.wl_topology.specs.Delays.{place_at}
use Rattle.wl_topology.specs.declared.Place.{Place}
use Rattle.wl_plan.specs.declared.plan.Plan.{Plan}
use Rattle.wl_plan.specs.PlanLine.{no_setup, setup_at}
use Rattle.wl_bound.specs.Families.{Bus}
use Rattle.wl_bound.specs.Terms.{look}
use Rattle.wl_listeners.specs.BusParts.{AreAllSenders, AreNodesOf, bus_part, then_node}
use Rattle.wl_listeners.specs.Listeners.{HasNodesOf, IsNoneOf, IsOneOf, IsWithoutLateNodes, IsWithoutListeners}

place : ℕ → Place
place x = record { x = x; out_delay = 1; in_delay = 1; listens = false }

setup : ℕ → NodeSetup
setup offset = record no_setup { clock = record no_setup.clock { offset = offset } }

beside : Plan
beside = record {
  nodes = setup 0 ∷ setup 1 ∷ setup 2 ∷ [];
  topology = record { places = place 0 ∷ record (place 5) { listens = true } ∷ place 9 ∷ []; per = 1 };
  disturbances = [];
  end = 100;
}

without : Plan
without = record { nodes = setup 0 ∷ setup 2 ∷ []; topology = record { places = place 0 ∷ place 9 ∷ []; per = 1 }; disturbances = []; end = 100 }

number : ℕ → ℕ
number zero = 0
number (suc n) = 2

-- of two nodes, each
each_of_two : (P : ℕ → Type 0) → P 0 → P 1 → (i : ℕ) → i < 2 → P i
each_of_two P p q zero less = p
each_of_two P p q (suc zero) less = q
each_of_two P p q (suc (suc n)) less = absurd (omega arith)

has_nodes : HasNodesOf without beside number
unfolding beside without number setup place
has_nodes = record {
  inside = each_of_two (λ i. number i < 3) (omega arith) (omega arith);
  once = λ i j ni nj. each_of_two (λ i. number i ≡ number j → i ≡ j) (each_of_two (λ j. 0 ≡ number j → 0 ≡ j) (λ e. refl) (λ e. absurd (omega arith)) j nj)
      (each_of_two (λ j. 2 ≡ number j → 1 ≡ j) (λ e. absurd (omega arith)) (λ e. refl) j nj) i ni;
  setups = each_of_two _ refl refl;
  places = each_of_two _ refl refl;
  cable = refl;
  disturbances = λ i t ni. refl;
  end = refl;
}

none_is_second : IsNoneOf without number 1
unfolding without number
none_is_second i ni e = absurd (each_of_two (λ j. number j ≡ 1 → ⊥) (λ x. omega arith) (λ x. omega arith) i ni e)

lacks_listener : (k : ℕ) → k < 3 → IsOneOf without number k ⊎ (IsNoneOf without number k × ((place_at beside.topology k).listens ≡ true))
unfolding beside without number place
lacks_listener zero less = inl (0, omega arith, refl)
lacks_listener (suc zero) less = inr (none_is_second, refl)
lacks_listener (suc (suc zero)) less = inl (1, omega arith, refl)
lacks_listener (suc (suc (suc k))) less = absurd (omega arith)

is_without : IsWithoutListeners without beside number
unfolding beside
is_without = record { nodes = has_nodes; lacks = lacks_listener }

-- and its second node begins at tick 1
lacks_late : (k : ℕ) → k < 3 → IsOneOf without number k ⊎ (1 ≤ tick_of (setup_at beside k).clock (quiet_of (setup_at beside k) []))
unfolding beside without number setup tick_of
lacks_late zero less = inl (0, omega arith, refl)
lacks_late (suc zero) less = inr (omega arith)
lacks_late (suc (suc zero)) less = inl (1, omega arith, refl)
lacks_late (suc (suc (suc k))) less = absurd (omega arith)

is_late : IsWithoutLateNodes without beside number 1
unfolding beside
is_late = record { nodes = has_nodes; lacks = lacks_late }

-- A bus of three nodes, of which the second only listens, and the bus of the other two: its second node is the third of the whole.
three : Bus
three = record {
  nodes = 3;
  tick = 1;
  shortest = λ i. 10 + i;
  longest = λ i. 20 + i;
  turns = λ i. 0;
  lengths = λ i. no_setup.segments;
  sends = λ i. not (i == 1);
  delay = λ i k. 4 * i + k;
  added = λ i k. 0;
  listens = λ i. i == 1;
}

two_are_nodes : AreNodesOf three number 2
unfolding three number without
two_are_nodes = record {
  inside = each_of_two (λ i. number i < 3) (omega arith) (omega arith);
  once = λ i j ni nj. has_nodes.once i j ni nj;
}

two_are_senders : AreAllSenders three number 2
unfolding three number
two_are_senders zero less sends = (0, omega arith, refl)
two_are_senders (suc zero) less sends = absurd (cc)
two_are_senders (suc (suc zero)) less sends = (1, omega arith, refl)
two_are_senders (suc (suc (suc k))) less sends = absurd (omega arith)

-- the first two nodes aren't all that send
first_two : AreAllSenders three (λ i. i) 2 → ⊥
unfolding three
first_two all = (let w = all 2 (omega arith) refl in let less = w.1 in let same = w.2 in omega arith)

part_way : (bus_part three number 2).delay 1 0 ≡ 8
unfolding three number
part_way = refl

part_quantum : (bus_part three number 2).shortest 1 ≡ 12
unfolding three number
part_quantum = refl

part_look : look (bus_part three number 2) 1 ≡ 13
unfolding three number look
part_look = refl

-- and with the listener after them
listener_last : then_node number 2 1 2 ≡ 1
listener_last = refl

third_second : then_node number 2 1 1 ≡ 2
unfolding number
third_second = refl
