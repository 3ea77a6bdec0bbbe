use Rattle.std.proofs.Common.{string_bytes}
use Rattle.wl_explain.specs.Condition.{pair_lines}
use Rattle.wl_margin.proofs.Callers.{each_more}
use Rattle.wl_explain.proofs.condition.push_lines_of.Goals as goal

pub loop-j-preserved : goal.loop-j-preserved
loop-j-preserved c =
    each_more (pair_lines c.args.family.now c.args.plan.now c.args.names.now c.args.i) c.loop-j.j (string_bytes c.args.text.now) (string_bytes c.loop-j.text) (string_bytes c.push_pair_lines.new.text)
    c.loop-j.invariant c.in_ok-push_pair_lines.ensures
