-- What it says of its last quantum is said of all.
use Rattle.std.proofs.Common.{List, sym, subst, arith}
use Rattle.wl_record_core.specs.declared.record.Record.{Record}
use Rattle.wl_group.specs.Through.{HasGoneOver}
use Rattle.wl_group.proofs.ThroughProofs.{inside_mid}
use Rattle.wl_group.proofs.cell.Cell.go_over.Goals as goal

pub speak-requires-clause-cell : goal.speak-requires-clause-cell
speak-requires-clause-cell c = c.in_ok-turned.ensures.gone.over.after

pub speak-requires-clause-some : goal.speak-requires-clause-some
speak-requires-clause-some c = omega (arith, c.in_ok-turned.ensures.gone.over.quanta)

pub speak-requires-clause-inside : goal.speak-requires-clause-inside
speak-requires-clause-inside c =
    inside_mid c.simulation_laws.ensures c.args.plan.now c.laws.ensures.sound c.args.i c.requires.node c.args.end c.requires.stop c.args.self.now c.go_through.new.self c.in_ok-turned.turned
    c.requires.cell c.requires.inside c.in_ok-turned.ensures.gone

pub speak-requires-clause-turned : goal.speak-requires-clause-turned
speak-requires-clause-turned c = c.in_ok-turned.ensures.gone.turned_is

pub returns-clause-gone : goal.returns-clause-gone
returns-clause-gone c =
    subst (λ (rs : List Record). HasGoneOver c.args.plan.now c.args.i c.args.end c.args.self.now c.go_through.new.self rs) (sym c.speak.ensures) c.in_ok-turned.ensures.gone.over
