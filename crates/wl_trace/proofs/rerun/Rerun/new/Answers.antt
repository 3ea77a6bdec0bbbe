use Rattle.std.proofs.Common.{[], length, sym, ap, subst}
use Rattle.wl_node.proofs.Callers.{none_yet, not_left_is}
use Rattle.wl_trace.specs.StayingRerun.{IsStayingRerun, RunsStaying}
use Rattle.wl_trace.specs.Starts.{staying_starts}
use Rattle.wl_trace.proofs.rerun.Rerun.new.Goals as goal

pub returns-clause-node : goal.returns-clause-node
returns-clause-node c =
    (let setup = c.args.setup.now in
    let yet = none_yet setup.until in
    record {
      stayed = subst (λ ls. IsStayingRerun setup ls c.in_ok-new.field-0) (sym yet.there) c.in_ok-new.ensures;
      left = sym (not_left_is setup.until [] (ap length yet.away));
    })

pub returns-clause-runs : goal.returns-clause-runs
returns-clause-runs c =
    (let setup = c.args.setup.now in
    let yet = none_yet setup.until in
    let is = c.in_ok-new.ensures in
    let runs : RunsStaying setup [] c.in_ok-new.field-0 = record { starts = length (staying_starts setup []); clock = is.clock; run = is.run; fewer = is.fewer } in
    record {
      stayed = subst (λ ls. RunsStaying setup ls c.in_ok-new.field-0) (sym yet.there) runs;
      left = sym (not_left_is setup.until [] (ap length yet.away));
    })
