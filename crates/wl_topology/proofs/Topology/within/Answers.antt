use Rattle.std.proofs.Common.{◌≡◌, sym, arith, subst, length, ◌≤◌, find, None}
use Rattle.std.proofs.lemmas.Bool.Decides.{nat_tests}
use Rattle.wl_topology.specs.Limits.{most_places}
use Rattle.wl_topology.specs.Delays.{Cable, is_zero, is_long, pairs}
use Rattle.wl_topology.specs.Stored.{IsStored}
use Rattle.wl_topology.proofs.Pairs.{topology_from}
use Rattle.wl_topology.proofs.Kept.{is_stored}
use Rattle.wl_topology.proofs.Topology.within.Goals as goal

pub invariant_of-result : goal.invariant_of-result
invariant_of-result c =
    let cable : Cable = record { places = c.args.places.now; per = c.args.per } in
    let wide = c.wide_limits_hold.ensures.nodes c.args.limits in
    let few : length c.args.places.now ≤ most_places = omega arith in
    let zeros : find (is_zero cable) (pairs cable) ≡ None = cc in
    let longs : find (is_long cable) (pairs cable) ≡ None = cc in
    let some_node : 1 ≤ length c.args.places.now = grind (arith, nat_tests) in
    subst (λ places. IsStored places (length c.args.places.now) c.args.per) (sym c.stored.ensures)
    (is_stored c.args.places.now c.args.per few (topology_from cable some_node few zeros longs))
