-- The member has seen all, and has made all its changes.
use Rattle.std.proofs.Common.{◌≡◌, ◌≤◌}
use Rattle.std.proofs.lemmas.Bool.{and_parts, leb-true}
use Rattle.std.proofs.lemmas.Result.{IfOk-weaker}
use Rattle.wl_plan.specs.PlanLine.{line_of}
use Rattle.wl_group.specs.Member.{next_tick}
use Rattle.wl_group.specs.GroupValue.{members_now, belongs}
use Rattle.wl_serial.specs.Outcome.{node_outcome_of}
use Rattle.wl_worker.proofs.NodesOfWorker.{outcome_here}
use Rattle.wl_worker.proofs.threads.outcome_at_end.Goals as goal

pub returns : goal.returns
returns c =
    let g = c.args.group.now in
    let late : g.plan.end ≤ next_tick (line_of g.plan) c.args.i (members_now g c.args.i) =
    leb-true g.plan.end (next_tick (line_of g.plan) c.args.i (members_now g c.args.i)) (and_parts (belongs g c.args.i) _ c.requires.ended).1 in
    IfOk-weaker c.node_outcome.result _ (λ told. told ≡ node_outcome_of g.plan c.args.i)
    (λ told is. outcome_here c.group_laws.ensures c.checked_is_sound.ensures g c.node.ensures.holds c.args.i c.requires.node c.requires.member late _ c.node.ensures.setup
    c.in_ok-changes.changes (c.in_ok-changes.ensures.whole c.requires.ended) told (is (c.node.ensures.keeps c.requires.lists) (members_now g c.args.i).saw c.node.ensures.node))
    c.node_outcome.ensures
