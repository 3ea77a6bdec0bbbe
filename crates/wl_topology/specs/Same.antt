-- When two cables are the same.
use Rattle.std.specs.Prelude.{Bool, ◌==◌}
use Rattle.std.specs.Bool.{beq}
use Rattle.std.specs.Ordering.{on, eq_of_both}
use Rattle.std.specs.Cmp.{IsEquivalence, IsPartialEquivalence, partial_equiv_from_equiv, bool_eq_equiv}
use Rattle.std.specs.Cmp.Lexicographic.{pointwise}
use Rattle.std.proofs.lemmas.Cmp.{on_equiv, and_equiv, lists_equiv, nat_eq_equiv}
use Rattle.wl_topology.specs.declared.Place.{Place}
use Rattle.wl_topology.specs.Delays.{Cable}

abbrev pub same_place : Place → Place → Bool
same_place = eq_of_both (on (λ p. p.x) ◌==◌) (eq_of_both (on (λ p. p.out_delay) ◌==◌) (eq_of_both (on (λ p. p.in_delay) ◌==◌) (on (λ p. p.listens) beq)))

-- the same places in the same order, and the same speed
abbrev pub same_cable : Cable → Cable → Bool
same_cable = eq_of_both (on (λ c. c.places) (pointwise same_place)) (on (λ c. c.per) ◌==◌)

pub same_cable_equiv : IsEquivalence same_cable
same_cable_equiv =
    and_equiv
    (on_equiv (λ c. c.places) (lists_equiv (and_equiv (on_equiv (λ p. p.x) nat_eq_equiv) (and_equiv (on_equiv (λ p. p.out_delay) nat_eq_equiv) (and_equiv (on_equiv (λ p. p.in_delay) nat_eq_equiv) (on_equiv (λ p. p.listens) bool_eq_equiv))))))
    (on_equiv (λ c. c.per) nat_eq_equiv)

pub same_cable_partial : IsPartialEquivalence same_cable
same_cable_partial = partial_equiv_from_equiv same_cable_equiv
