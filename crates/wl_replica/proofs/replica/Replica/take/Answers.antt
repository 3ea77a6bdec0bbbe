use Rattle.std.proofs.Common.{ap, sym, subst, ◌∙◌, ◌∷◌, []}
use Rattle.wl_replica.specs.State.{State, Fits, state_with_record}
use Rattle.wl_replica.specs.Dense.{edges_of_row, row_number}
use Rattle.wl_replica.proofs.Keeps.{taken_keeps}
use Rattle.wl_replica.proofs.States.{taken_after}
use Rattle.wl_replica.proofs.RunsTaken.{was_run, runs_now}
use Rattle.wl_replica.proofs.replica.Replica.take.Goals as goal

pub record_came-requires-clause-was : goal.record_came-requires-clause-was
record_came-requires-clause-was c =
    was_run c.self.inside.rows c.take.new.self c.args.told c.in_ok-take.ensures.ok c.self.inside.runs.items c.self.invariant
    (subst (λ (s : State). Fits s.nodes c.args.told) (sym c.self.view_is) c.requires) c.node-node.result c.node-node.ensures
    (edges_of_row c.edge_numbers-edges.result.now) (row_number c.silence_numbers.result.now) c.edge_numbers-edges.ensures.words c.silence_numbers.ensures.words

pub returns-clause-ok : goal.returns-clause-ok
returns-clause-ok c = c.in_ok-take.ensures.ok ∙ ap (λ (s : State). state_with_record s c.args.told) c.self.view_is

pub returns-clause-after : goal.returns-clause-after
returns-clause-after c = taken_after c.args.self.now _ (c.args.told ∷ []) (returns-clause-ok c)

pub returns-clause-keeps : goal.returns-clause-keeps
returns-clause-keeps c = λ table order p q. taken_keeps c.known_laws.ensures c.args.self.now _ (c.args.told ∷ []) (returns-clause-ok c) table order p (q, tt)

pub invariant_of-self-2 : goal.invariant_of-self-2
invariant_of-self-2 c =
    runs_now c.self.inside.rows c.take.new.self c.args.told c.in_ok-take.ensures.ok c.self.inside.runs.items c.self.invariant
    (subst (λ (s : State). Fits s.nodes c.args.told) (sym c.self.view_is) c.requires) c.node-node.result c.node-node.ensures
    (edges_of_row c.edge_numbers-edges.result.now) (row_number c.silence_numbers.result.now) c.edge_numbers-edges.ensures.words c.silence_numbers.ensures.words
    c.record_came.new.runs.items c.record_came.ensures.count c.record_came.ensures.run c.record_came.ensures.others
