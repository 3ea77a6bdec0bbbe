-- A sample is the next one of the past.
use Rattle.std.proofs.Common.{sym, subst}
use Rattle.wl_node.specs.History.{by_beat}
use Rattle.wl_sync.specs.declared.Beat.{Beat}
use Rattle.wl_trace.specs.StayingRerun.{RunsTo, starts_with}
use Rattle.wl_trace.proofs.staying_rerun.StayingRerun.obey.Goals as goal

pub returns-in-Sample-clause-run : goal.returns-in-Sample-clause-run
returns-in-Sample-clause-run c h starts n fewer r =
    subst (λ (b : Beat). RunsTo c.args.setup.now c.sample.new.self (by_beat c.args.setup.now h c.args.level b) (starts_with b starts)) (sym c.in-Sample.is)
    (c.sample.ensures.run h starts n fewer r)
