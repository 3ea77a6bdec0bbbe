use Rattle.std.proofs.Common.{ℕ, ap, sym, subst, ◌∙◌, ◌∷◌, []}
use Rattle.wl_replica.specs.State.{State, Fits, state_with_record}
use Rattle.wl_replica.proofs.Shown.{at_error}
use Rattle.wl_replica.proofs.States.{taken_after}
use Rattle.wl_replica.proofs.DenseShown.{told_kept, told_shown, same_kept, same_shown}
use Rattle.wl_replica.proofs.dense.Rows.take.Goals as goal

pub raise_told-requires-clause-edges : goal.raise_told-requires-clause-edges
raise_told-requires-clause-edges c = subst (λ (n : ℕ). Fits n c.args.told) (sym (c.self.invariant.edge_rows ∙ ap (λ (s : State). s.nodes) c.self.view_is)) c.requires

pub raise_told-requires-clause-silences : goal.raise_told-requires-clause-silences
raise_told-requires-clause-silences c = subst (λ (n : ℕ). Fits n c.args.told) (sym (c.self.invariant.silence_rows ∙ ap (λ (s : State). s.nodes) c.self.view_is)) c.requires

pub invariant_of-self : goal.invariant_of-self
invariant_of-self c =
    same_kept c.self.inside.nodes c.self.inside.edges.rows.items c.self.inside.silences.rows.items c.raise_told.new.edges.rows.items c.raise_told.new.silences.rows.items c.self.invariant
    c.raise_told.ensures.edge_rows c.raise_told.ensures.silence_rows c.in_err-raise_told.ensures.err.0 c.in_err-raise_told.ensures.err.1

pub invariant_of-self-2 : goal.invariant_of-self-2
invariant_of-self-2 c =
    told_kept c.self.inside.nodes c.self.inside.edges.rows.items c.self.inside.silences.rows.items c.raise_told.new.edges.rows.items c.raise_told.new.silences.rows.items c.args.told c.self.invariant
    c.raise_told.ensures.edge_rows c.raise_told.ensures.silence_rows c.in_ok-raise_told.ensures.ok
    (subst (λ (n : ℕ). Fits n c.args.told) (sym (ap (λ (s : State). s.nodes) c.self.view_is)) c.requires)

pub returns-in_err-raise_told-clause-err : goal.returns-in_err-raise_told-clause-err
returns-in_err-raise_told-clause-err c =
    at_error _ _ (same_shown c.self.inside.nodes c.self.inside.edges.rows.items c.self.inside.silences.rows.items c.raise_told.new.edges.rows.items c.raise_told.new.silences.rows.items
    c.in_err-raise_told.ensures.err.0 c.in_err-raise_told.ensures.err.1 ∙ c.self.view_is)

pub returns-clause-ok : goal.returns-clause-ok
returns-clause-ok c =
    told_shown c.self.inside.nodes c.self.inside.edges.rows.items c.self.inside.silences.rows.items c.raise_told.new.edges.rows.items c.raise_told.new.silences.rows.items c.args.told c.in_ok-raise_told.ensures.ok
    ∙ ap (λ (s : State). state_with_record s c.args.told) c.self.view_is

pub returns-clause-after : goal.returns-clause-after
returns-clause-after c = taken_after c.args.self.now _ (c.args.told ∷ []) (returns-clause-ok c)
