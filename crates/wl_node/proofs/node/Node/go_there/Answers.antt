use Rattle.std.proofs.Common.{refl}
use Rattle.wl_node.specs.Limits.{most_run_quanta}
use Rattle.wl_node.proofs.Gone.{on_err}
use Rattle.wl_node.proofs.NodeGone.{few_quanta, gone_there, reachable_there, stopped_there, turns_there}
use Rattle.wl_node.proofs.node.Node.go_there.Goals as goal

pub returns-clause-gone : goal.returns-clause-gone
returns-clause-gone c =
    gone_there c.args.level c.args.most c.args.self.now _ c.requires.some c.requires.there c.in_ok-ran.ran c.in_ok-ran.ensures.few c.in_ok-ran.ensures.gone refl

pub returns-clause-turned : goal.returns-clause-turned
returns-clause-turned c less =
    turns_there c.args.level c.args.most c.args.self.now c.args.self.now c.requires.some c.requires.there c.in_ok-ran.ran c.in_ok-ran.ensures.few (c.in_ok-ran.ensures.turned less)

pub returns-in_err-ran-clause-stopped : goal.returns-in_err-ran-clause-stopped
returns-in_err-ran-clause-stopped c =
    on_err c.from_residual.result
    (stopped_there c.args.level c.args.most c.args.self.now _ c.requires.some c.requires.there c.in_err-ran.ensures.stopped refl)

pub invariant_of-self : goal.invariant_of-self
invariant_of-self c = record {
  few = few_quanta c.args.level c.args.most c.args.self.now.away most_run_quanta c.args.self.now.staying c.go.new.self c.go.result c.go.ensures.gone c.go.ensures.few c.go.ensures.stopped c.requires.short;
  reached = reachable_there c.args.level c.args.most c.args.self.now c.args.self.now c.requires.some c.requires.there c.go.new.self c.go.result c.go.ensures.gone c.go.ensures.few c.go.ensures.stopped;
}
