use Rattle.std.proofs.Common.{string_bytes}
use Rattle.wl_explain.specs.Condition.{timing_line}
use Rattle.wl_margin.proofs.Callers.{each_more}
use Rattle.wl_explain.proofs.explanation.push_timing_lines.Goals as goal

pub loop-i-preserved : goal.loop-i-preserved
loop-i-preserved c =
    each_more (timing_line c.args.plan.now c.args.names.now) c.loop-i.i (string_bytes c.args.text.now) (string_bytes c.loop-i.text) (string_bytes c.push_timing_line.new.text)
    c.loop-i.invariant c.in_ok-push_timing_line.ensures
