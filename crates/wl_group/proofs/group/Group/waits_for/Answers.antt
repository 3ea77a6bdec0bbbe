-- Before what a node drives is known at a place, the line there isn't known.
use Rattle.std.proofs.Common.{◌<◌, ◌≤◌, length, ap, subst, arith}
use Rattle.std.proofs.lemmas.Bool.{leb-true}
use Rattle.wl_replica.specs.State.{slots_of}
use Rattle.wl_replica.specs.Known.{horizon}
use Rattle.wl_group.specs.GroupValue.{GroupValue}
use Rattle.wl_group.specs.Ways.{way_in}
use Rattle.wl_group.proofs.RowProofs.{stuck_behind}
use Rattle.wl_group.proofs.group.Group.waits_for.Goals as goal

pub returns-then-i-nodes : goal.returns-then-i-nodes
returns-then-i-nodes c late =
    let here : c.args.i < length c.self.inside.plan.nodes = omega (arith, c.if-i-nodes.true, c.nodes.ensures.value, c.self.invariant.kept.value.of_all) in
    let inside : c.args.i < length c.args.self.now.plan.nodes = subst (λ (v : GroupValue). c.args.i < length v.plan.nodes) c.self.view_is here in
    let before : c.known_of.result ≤ c.due.result = leb-true c.known_of.result c.due.result late in
    stuck_behind c.known_laws.ensures c.args.self.now c.args.i c.args.node c.due.result
    (horizon (slots_of c.self.inside.replica) c.args.i) (way_in c.ways.result.now c.args.i)
    inside c.due.ensures
    (ap (λ (v : GroupValue). horizon (slots_of v.replica) c.args.i) c.self.view_is)
    (c.ways.ensures.ways.each c.args.i inside)
    (omega (arith, c.known_of.ensures, before))
