-- The levels that the node was there for come first, also at the mark.
use Rattle.std.proofs.Common.{◌∙◌, List, ◌++◌, length, sym, ap, subst, arith}
use Rattle.std.proofs.Math.Logic.{∥∥₁_map}
use Rattle.wl_node.specs.History.{levels_there, levels_away, staying_history}
use Rattle.wl_level.specs.declared.Level.{Level}
use Rattle.wl_node.specs.Marks.{IsMark, IsStayingMark}
use Rattle.wl_node.specs.Reached.{IsNode, node_setup}
use Rattle.wl_node.specs.Staying.{IsStaying}
use Rattle.wl_node.proofs.NodeGone.{IsAt, IsReachable}
use Rattle.wl_node.proofs.Leaving.{same_past, there_more}
use Rattle.wl_node.proofs.node.Node.forth.Goals.{Else-not-forth}
use Rattle.wl_node.proofs.node.Node.forth.Goals as goal

pub forth-requires : goal.forth-requires
forth-requires c =
    ∥∥₁_map c.requires (λ (levels, more, ahead).
    (let rest = there_more c.args.self.now.staying.setup.until levels more in (
      levels_there c.args.self.now.staying.setup.until levels,
      rest.0,
      ahead.stands.stayed,
      subst (λ ls. IsStayingMark c.args.self.now.staying.setup ls c.args.mark.now.staying) rest.1 ahead.marked.stayed,
    )))

pub returns-then-not-forth-clause-goes : goal.returns-then-not-forth-clause-goes
returns-then-not-forth-clause-goes c keeps levels more is marked none =
    (let setup = node_setup c.args.self.now in
    let rest = there_more setup.until levels more in
    let went = c.forth.ensures.goes keeps (levels_there setup.until levels) rest.0 is.stayed (subst (λ ls. IsStayingMark setup ls c.args.mark.now.staying) rest.1 marked.stayed)
    (ap (λ ls. (staying_history setup ls).frames) (sym rest.1) ∙ (sym (same_past setup (levels ++ more)).frames ∙ (none ∙ (same_past setup levels).frames))) in
    sym c.if-not-forth.true ∙ went)

placed : (c : Else-not-forth) (levels more : List Level) → IsNode levels c.args.self.now → IsMark (node_setup c.args.self.now) (levels ++ more) c.args.mark.now
    → IsAt c.forth.new.self c.args.mark.now.away (levels ++ more)
placed c levels more is marked =
    (let setup = node_setup c.args.self.now in
    let rest = there_more setup.until levels more in
    let until = ap (λ s. s.until) c.forth.ensures.setup in
    let went = c.forth.ensures.node c.if-not-forth.false (levels_there setup.until levels) rest.0 is.stayed (subst (λ ls. IsStayingMark setup ls c.args.mark.now.staying) rest.1 marked.stayed) in (
      subst (λ u. IsStaying (levels_there u (levels ++ more)) c.forth.new.self) (sym until) (subst (λ ls. IsStaying ls c.forth.new.self) (sym rest.1) went),
      marked.away ∙ ap (λ u. length (levels_away u (levels ++ more))) (sym until),
    ))

pub returns-clause-node : goal.returns-clause-node
returns-clause-node c t levels more is marked = (let at = placed (goal.at.returns-clause-node c).Else-not-forth levels more is marked in record { stayed = at.0; away = at.1 })

pub invariant_of-self : goal.invariant_of-self
invariant_of-self c =
    (let same = c.forth.ensures.same c.if-not-forth.true in
    record {
      few = (let q = ap (λ n. n.progress.quanta) same in let f = c.args.self.now.few in omega (arith, q, f));
      reached = subst (λ n. IsReachable n c.args.self.now.away) (sym same) c.args.self.now.reached;
    })

pub invariant_of-self-2 : goal.invariant_of-self-2
invariant_of-self-2 c = record {
  few = omega (arith, c.forth.ensures.quanta c.if-not-forth.false, c.args.mark.now.few);
  reached = ∥∥₁_map c.requires (λ (levels, more, ahead). (let at = placed c levels more ahead.stands ahead.marked in (levels ++ more, at.0, at.1)));
}
