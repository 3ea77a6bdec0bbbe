-- The levels that the node was there for at the mark come first.
use Rattle.std.proofs.Common.{◌∙◌, List, length, sym, ap, subst, arith}
use Rattle.std.proofs.Math.Logic.{∥∥₁_map}
use Rattle.wl_node.specs.History.{levels_there, levels_away}
use Rattle.wl_level.specs.declared.Level.{Level}
use Rattle.wl_node.specs.Marks.{HasGoneOn}
use Rattle.wl_node.specs.Staying.{IsStaying}
use Rattle.wl_node.proofs.NodeGone.{IsAt}
use Rattle.wl_node.proofs.Leaving.{there_more}
use Rattle.wl_node.proofs.node.Node.back.Goals.{After-back}
use Rattle.wl_node.proofs.node.Node.back.Goals as goal

pub back-requires : goal.back-requires
back-requires c =
    ∥∥₁_map c.requires (λ (levels, more, on).
    (let rest = there_more c.args.self.now.staying.setup.until levels more in
    (levels_there c.args.self.now.staying.setup.until levels, rest.0, on.marked.stayed, subst (λ ls. IsStaying ls c.args.self.now.staying) rest.1 on.stands.stayed)))

placed : (c : After-back) (levels more : List Level) → HasGoneOn c.args.mark.now levels more c.args.self.now → IsAt c.back.new.self c.args.mark.now.away levels
placed c levels more on =
    (let rest = there_more c.args.self.now.staying.setup.until levels more in
    let until = ap (λ s. s.until) c.back.ensures.setup in (
      subst (λ u. IsStaying (levels_there u levels) c.back.new.self) (sym until)
          (c.back.ensures.node (levels_there c.args.self.now.staying.setup.until levels) rest.0 on.marked.stayed (subst (λ ls. IsStaying ls c.args.self.now.staying) rest.1 on.stands.stayed)),
      on.marked.away ∙ ap (λ u. length (levels_away u levels)) (sym until),
    ))

pub returns-clause-node : goal.returns-clause-node
returns-clause-node c levels more on = (let is = placed (goal.at.returns-clause-node c).After-back levels more on in record { stayed = is.0; away = is.1 })

pub invariant_of-self : goal.invariant_of-self
invariant_of-self c = record {
  few = omega (arith, c.back.ensures.quanta, c.args.mark.now.few);
  reached = ∥∥₁_map c.requires (λ (levels, more, on). (let is = placed c levels more on in (levels, is.0, is.1)));
}
