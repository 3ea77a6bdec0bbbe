-- After its last change the node keeps its level, as far as it is known.
use Rattle.std.proofs.Common.{◌≡◌, ◌∙◌, sym, ap, arith}
use Rattle.wl_record_core.specs.Truth.{odd}
use Rattle.wl_record_core.proofs.Callers.{odd_is}
use Rattle.wl_topology.specs.Delays.{delay_of}
use Rattle.wl_replica.specs.State.{slots_of}
use Rattle.wl_plan.specs.PlanLine.{line_of}
use Rattle.wl_group.specs.Ways.{way_in}
use Rattle.wl_group.proofs.HeardProofs.{heard_to_the_last}
use Rattle.wl_group.proofs.heard.heard_last.Goals as goal

pub returns-clause-until : goal.returns-clause-until
returns-clause-until c =
    let way : way_in c.args.ways.now c.args.i ≡ delay_of c.args.plan.now.topology c.args.i c.args.j = c.requires.ways.each c.args.i c.requires.from in
    omega (arith, way, c.known_of.ensures, c.requires.early)

pub returns-clause-heard : goal.returns-clause-heard
returns-clause-heard c u from until =
    let way : way_in c.args.ways.now c.args.i ≡ delay_of c.args.plan.now.topology c.args.i c.args.j = c.requires.ways.each c.args.i c.requires.from in
    heard_to_the_last c.known_laws.ensures c.true_replicas_agree.ensures (line_of c.args.plan.now) c.laws.ensures.sound (slots_of c.args.replica.now) c.requires.truth
    c.args.i c.args.j c.requires.from c.args.t u c.requires.last from (omega (arith, until, way, c.known_of.ensures))
    ∙ sym (odd_is c.run_length.result ∙ ap odd c.run_length.ensures.length)
