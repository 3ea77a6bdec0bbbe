use Rattle.std.proofs.Common.{ap, sym, ◌∙◌}
use Rattle.wl_replica.specs.State.{State, states_joined}
use Rattle.wl_replica.proofs.Keeps.{joined_keeps}
use Rattle.wl_replica.proofs.States.{joined_after}
use Rattle.wl_replica.proofs.RunsTaken.{joined_limits}
use Rattle.wl_replica.proofs.replica.Replica.join.Goals as goal

pub join-requires : goal.join-requires
join-requires c = ap (λ (s : State). s.nodes) c.self.view_is ∙ (c.requires ∙ sym (ap (λ (s : State). s.nodes) c.other.view_is))

pub all_came-requires-clause-count : goal.all_came-requires-clause-count
all_came-requires-clause-count c = c.self.invariant.count ∙ sym (ap (λ (s : State). s.nodes) c.in_ok-join.ensures.ok)

pub all_came-requires-clause-limits : goal.all_came-requires-clause-limits
all_came-requires-clause-limits c = joined_limits c.self.inside.rows c.other.inside.rows c.join.new.self c.in_ok-join.ensures.ok c.self.invariant.limits c.other.invariant.limits

pub returns-clause-ok : goal.returns-clause-ok
returns-clause-ok c = c.in_ok-join.ensures.ok ∙ (λ i. states_joined (c.self.view_is i) (c.other.view_is i))

pub returns-clause-after : goal.returns-clause-after
returns-clause-after c = joined_after c.args.self.now c.args.other.now _ (returns-clause-ok c)

pub returns-clause-keeps : goal.returns-clause-keeps
returns-clause-keeps c = λ table order p q. joined_keeps c.known_laws.ensures c.args.self.now c.args.other.now _ (returns-clause-ok c) table order p q
