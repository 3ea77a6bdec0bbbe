use Rattle.wl_plan.specs.declared.plan.Plan.{Plan}
use Rattle.wl_group.specs.Led.{LedTo}
use Rattle.wl_worker.specs.Given.{GaveSince}
use Rattle.wl_worker.proofs.turns.run.Given as goal

abbrev pub invariant-loop-turn : goal.invariant-loop-turn
invariant-loop-turn g l =
    ((p : Plan) → g.L.Link.is_of l.fn.link p → g.L.Link.is_of l.link p)
    × LedTo l.fn.group l.group × GaveSince g.L.Link.gave l.fn.group l.group
