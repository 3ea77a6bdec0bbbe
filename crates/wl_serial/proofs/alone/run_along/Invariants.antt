use Rattle.std.proofs.Common.{◌≡◌, ◌⊎◌, ◌<◌, ◌≤◌, ◌+◌, ◌-◌, List, get_or}
use Rattle.wl_level.specs.declared.Level.{Level}
use Rattle.wl_node.specs.Reached.{IsNode}
use Rattle.wl_record_core.specs.Truth.{count_below}
use Rattle.wl_serial.specs.declared.running_node.Running.{Running}
use Rattle.wl_serial.specs.Running.{by_quanta}
use Rattle.wl_serial.specs.Stretch.{HasRunAlong}
use Rattle.wl_serial.proofs.alone.run_along.Given as goal

-- the node has run all its quanta up to the tick by which changes were taken up, and told nothing
abbrev pub invariant-loop-from : goal.invariant-loop-from
invariant-loop-from l =
    HasRunAlong l.plan l.j l.delay l.i l.until l.fn.running l.running
    × ((d : Running) → (get_or l.running l.i d).changes ≡ (get_or l.fn.running l.i d).changes)
    × ((d : Running) (levels : List Level) → IsNode levels (get_or l.fn.running l.i d).node → l.from ≤ (by_quanta l.plan l.i (get_or l.running l.i d)).next)
    × ((d : Running) → ((get_or l.fn.running l.i d).next < (by_quanta l.plan l.i (get_or l.running l.i d)).next) ⊎ (l.from ≡ (get_or l.fn.running l.i d).next))
    × (l.from ≤ l.until)
    × ((d : Running) → l.from < l.until → l.come ≡ count_below (l.from + 1 - l.delay) (get_or l.fn.running l.j d).changes)

abbrev pub decreases-loop-from : goal.decreases-loop-from
decreases-loop-from l = l.until - l.from
