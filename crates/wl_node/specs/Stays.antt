-- For how many quanta more the drive of a node stands where the node sees recessive at each of them.
use Rattle.std.specs.Prelude.{ℕ, suc, ◌+◌, ◌*◌, ◌-◌, ◌&&◌, not, min, max, List, [], ◌∷◌, length, Option, Some, None, if◌then◌else◌}
use Rattle.wl_level.specs.Levels.{is_dominant}
use Rattle.wl_segments.specs.Lengths.{bit_quanta}
use Rattle.wl_sync.specs.SampleLaws.{recessive_way}
use Rattle.wl_machine.specs.Judged.{stretch_of, is_free_sort}
use Rattle.wl_machine.specs.RecessiveStay.{rest_of}
use Rattle.wl_node.specs.declared.setup.Queued.{Queued}
use Rattle.wl_node.specs.declared.setup.NodeSetup.{NodeSetup}
use Rattle.wl_level.specs.declared.Level.{Level}
use Rattle.wl_node.specs.History.{History, staying_history, has_left, unsent_of}
use Rattle.wl_node.specs.Limits.{most_run_quanta}

-- the quanta up to the one at which the first frame of a queue is ready, that one too; without a frame all that a node may run, which is the most
abbrev pub until_frame : List Queued → ℕ → ℕ
until_frame [] quantum = most_run_quanta
until_frame (q ∷ qs) quantum = min (suc (q.ready - quantum)) most_run_quanta

-- Up to the next sample, and by so many samples more as the machine rests for: on a recessive line they are a whole bit apart. What the machine wants after the
-- last of them is driven from the next start on, behind PHASE_SEG2.
abbrev pub rest_stay : Option ℕ → NodeSetup → History → ℕ
rest_stay None setup h = 0
rest_stay (Some rest) setup h = recessive_way setup.segments h.seen + rest * bit_quanta setup.segments + (setup.segments.ps2 - 1)

-- A machine at rest wants recessive for so many samples, whatever it is handed; and as long as no frame is ready at a sample, all the way to a free bus and on it. The
-- drive changes later than at that sample.
abbrev pub stay_by : Option ℕ → NodeSetup → History → ℕ
stay_by None setup h = 0
stay_by (Some rest) setup h = max (rest_stay (Some rest) setup h) (until_frame (unsent_of setup h) (length h.seen))

-- for how many quanta more a node that drives recessive is sure to do so; none is said of a dominant drive
abbrev pub stay_at : NodeSetup → History → ℕ
stay_at setup h = if is_dominant h.drive then 0 else stay_by (rest_of (stretch_of h.inputs)) setup h

-- On a free bus a node that drives recessive is sure to do so up to then: only a dominant sample, or a frame that is ready at a sample, ends an idle bus, and
-- the drive changes later than at that sample (Bosch CAN 2.0 part B, section 3.2.5, bus idle).
abbrev pub free_stay : NodeSetup → History → ℕ
free_stay setup h = if is_free_sort (stretch_of h.inputs).sort && not (is_dominant h.drive) then until_frame (unsent_of setup h) (length h.seen) else 0

-- for how many quanta more a node that has seen these levels is sure to drive recessive where it sees recessive; one that has left is, for all that a node may run
unfoldable pub stay_of : NodeSetup → List Level → ℕ
stay_of setup levels = if has_left setup.until levels then most_run_quanta else stay_at setup (staying_history setup levels)
