use Rattle.std.proofs.Common.{◌∙◌, ◌+◌, ◌++◌, replicate, sym, refl, arith}
use Rattle.wl_level.proofs.Callers.{recessive_from, dominant_from}
use Rattle.wl_node.proofs.NodeGone.{at_away, gone_away, reachable, stands_away, stood_one, turns_away}
use Rattle.wl_node.proofs.node.Node.go_away.Goals as goal

pub returns-then-is_dominant-clause-gone : goal.returns-then-is_dominant-clause-gone
returns-then-is_dominant-clause-gone c =
    gone_away c.args.level c.args.self.now _ c.requires.away 1 refl refl (stood_one c.args.level c.args.self.now c.args.self.now c.requires.away)

pub returns-then-is_dominant-clause-turned : goal.returns-then-is_dominant-clause-turned
returns-then-is_dominant-clause-turned c less =
    turns_away c.args.level c.args.self.now c.args.self.now c.requires.away c.drive.result c.drive.ensures (dominant_from c.drive.result (sym c.is_dominant.ensures ∙ c.if-is_dominant.true))

pub returns-clause-gone : goal.returns-clause-gone
returns-clause-gone c =
    gone_away c.args.level c.args.self.now _ c.requires.away c.args.most refl refl
    (λ m less. stands_away c.args.level c.args.self.now c.args.self.now c.requires.away c.drive.result c.drive.ensures (recessive_from c.drive.result (sym c.is_dominant.ensures ∙ c.if-is_dominant.false)) m)

pub invariant_of-self : goal.invariant_of-self
invariant_of-self c = record {
  few = omega (arith, c.requires.some, c.requires.short);
  reached = reachable c.args.self.now c.args.self.now.staying (c.args.self.now.away + 1) (λ levels. levels ++ replicate 1 c.args.level) (at_away c.args.level c.args.self.now c.args.self.now c.requires.away 1);
}

pub invariant_of-self-2 : goal.invariant_of-self-2
invariant_of-self-2 c = record {
  few = omega (arith, c.requires.short);
  reached = reachable c.args.self.now c.args.self.now.staying (c.args.self.now.away + c.args.most) (λ levels. levels ++ replicate c.args.most c.args.level) (at_away c.args.level c.args.self.now c.args.self.now c.requires.away c.args.most);
}
