-- Until its next change, and as far as it is known, the node keeps its level.
use Rattle.std.proofs.Common.{◌≡◌, ◌<◌, ◌∙◌, sym, subst, arith}
use Rattle.wl_record_core.proofs.Callers.{odd_is}
use Rattle.wl_record_core.specs.Limits.{most_edges-is}
use Rattle.wl_replica.specs.State.{slots_of}
use Rattle.wl_replica.specs.Known.{run_length, horizon}
use Rattle.wl_plan.specs.PlanLine.{line_of}
use Rattle.wl_group.specs.Heard.{AreNotAfter}
use Rattle.wl_group.proofs.HeardProofs.{level_stays}
use Rattle.wl_group.proofs.heard.drive_at.Goals as goal

pub overflow_add-guess : goal.overflow_add-guess
overflow_add-guess c = omega (arith, c.changes_until-count.ensures.count.few, c.run_length-run.ensures.few, most_edges-is)

pub returns-clause-until : goal.returns-clause-until
returns-clause-until c = c.changes_until-count.ensures.later (omega (arith, c.requires.early, c.horizon.ensures.tick))

pub returns-clause-drive : goal.returns-clause-drive
returns-clause-drive c u from until =
    let w = slots_of c.args.replica.now in
    let l = line_of c.args.plan.now in
    let run : c.run_length-run.result ≡ run_length w c.args.i = c.run_length-run.ensures.length in
    let early : u < horizon w c.args.i = omega (arith, until, c.changes_until-count.ensures.few, c.horizon.ensures.tick) in
    level_stays c.known_laws.ensures c.true_replicas_agree.ensures l c.laws.ensures.sound w c.requires.truth
    c.args.i c.requires.from c.args.t u c.changes_until-count.result.0
    (subst (λ m. AreNotAfter w c.args.i m c.args.t c.changes_until-count.result.0) run c.changes_until-count.ensures.count)
    from early
    (λ some. let b = c.changes_until-count.ensures.change (omega (arith, some, run)) in omega (arith, until, b))
    ∙ sym (odd_is c.changes_until-count.result.0)
