use Rattle.std.proofs.Common.{◌∙◌, ◌+◌, List, [], ◌∷◌, ◌++◌, length, sym, ap, subst, arith}
use Rattle.wl_node.specs.History.{levels_there, levels_away}
use Rattle.wl_level.specs.declared.Level.{Level}
use Rattle.wl_node.specs.Reached.{IsNode}
use Rattle.wl_node.specs.Staying.{IsStaying}
use Rattle.wl_node.proofs.Leaving.{next_there}
use Rattle.wl_node.proofs.NodeGone.{IsAt, at_away, quanta_there, reachable}
use Rattle.wl_node.proofs.node.Node.run.Goals.{After-run}
use Rattle.wl_node.proofs.node.Node.run.Goals as goal

placed : (c : After-run) (levels : List Level) → IsNode levels c.args.self.now → IsAt c.run.new.self c.args.self.now.away (levels ++ c.args.level ∷ [])
placed c levels is =
    (let old = c.args.self.now in
    let both = next_there old.staying.setup.until levels c.args.level old.staying.progress.quanta (quanta_there levels old is) (sym c.is_away.ensures ∙ c.if-is_away.false) in
    let until = ap (λ s. s.until) c.run.ensures.setup in (
      subst (λ ls. IsStaying ls c.run.new.self) (sym (both.1.there) ∙ ap (λ u. levels_there u (levels ++ c.args.level ∷ [])) (sym until))
          (c.run.ensures.node levels (subst (λ ls. IsStaying ls old.staying) both.0.there is.stayed)),
      is.away ∙ (ap length (both.0.away ∙ sym both.1.away) ∙ ap (λ u. length (levels_away u (levels ++ c.args.level ∷ []))) (sym until)),
    ))

pub returns-else-is_away-clause-node : goal.returns-else-is_away-clause-node
returns-else-is_away-clause-node c levels is = (let at = placed (goal.at.returns-else-is_away-clause-node c).After-run levels is in record { stayed = at.0; away = at.1 })

pub invariant_of-self : goal.invariant_of-self
invariant_of-self c = record {
  few = omega (arith, c.requires.short);
  reached = reachable c.args.self.now c.args.self.now.staying (c.args.self.now.away + 1) (λ levels. levels ++ c.args.level ∷ [])
      (at_away c.args.level c.args.self.now c.args.self.now (sym c.is_away.ensures ∙ c.if-is_away.true) 1);
}

pub invariant_of-self-else-is_away : goal.invariant_of-self-else-is_away
invariant_of-self-else-is_away c = record {
  few = (let q = c.run.ensures.quanta in omega (arith, q, c.requires.short));
  reached = reachable c.args.self.now c.run.new.self c.args.self.now.away (λ levels. levels ++ c.args.level ∷ []) (placed c);
}
