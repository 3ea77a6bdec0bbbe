use Rattle.std.proofs.Common.{string_bytes}
use Rattle.wl_explain.specs.Condition.{stray_of}
use Rattle.wl_margin.proofs.Callers.{each_more}
use Rattle.wl_explain.proofs.condition.push_strays.Goals as goal

pub loop-i-preserved : goal.loop-i-preserved
loop-i-preserved c =
    each_more (stray_of c.args.family.now c.args.plan.now c.args.names.now) c.loop-i.i (string_bytes c.args.text.now) (string_bytes c.loop-i.text) (string_bytes c.push_stray.new.text)
    c.loop-i.invariant (rw (c.name_of-a.ensures, c.member-member.ensures, c.node.ensures, c.deref.ensures.0) at c.in_ok-push_stray.ensures)
