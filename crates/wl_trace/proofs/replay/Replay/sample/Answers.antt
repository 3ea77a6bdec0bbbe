use Rattle.wl_trace.proofs.replay.Replay.sample.Goals as goal

pub returns-then-branch-clause-past : goal.returns-then-branch-clause-past
returns-then-branch-clause-past c p r =
    c.in_ok-keep.ensures.past c.if-branch.true c.args.setup.now p c.args.notes.now.quantum r
