-- The head that is handed in is what the past says.
use Rattle.std.proofs.Common.{sym, subst}
use Rattle.wl_trace.specs.Replay.{IsGiven, IsSampledNode}
use Rattle.wl_trace.proofs.sampled_node.SampledNode.sample_at.Goals as goal

pub returns-then-keep : goal.returns-then-keep
returns-then-keep c p r = c.keep.ensures.past c.if-keep.true c.args.setup.now p c.args.quantum r

pub returns : goal.returns
returns c p r =
    let old : IsSampledNode c.args.setup.now c.keep.new.self p = c.keep.ensures.same c.if-keep.false c.args.setup.now p r in
    c.sample.ensures.past p c.args.quantum
    (subst (IsGiven c.args.setup.now c.next_head-head.new.self p c.args.quantum c.args.level) (sym c.as_ref.ensures.value) (c.next_head-head.ensures.given p old))
    (c.next_head-head.ensures.node p old)
