use Rattle.std.proofs.Common.{string_bytes}
use Rattle.wl_margin.proofs.Callers.{each_more}
use Rattle.wl_traffic.specs.Bounds.{bound_line_at}
use Rattle.wl_traffic.proofs.bounds.push_lines.Goals as goal

pub loop-e-preserved : goal.loop-e-preserved
loop-e-preserved c =
    each_more (bound_line_at c.args.names.now c.args.asked.now c.args.lines.now) c.loop-e.e
    (string_bytes c.args.text.now) (string_bytes c.loop-e.text) (string_bytes c.push_line_at.new.text) c.loop-e.invariant c.in_ok-push_line_at.ensures
