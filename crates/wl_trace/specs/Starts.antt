-- Where the bits of a node begin, as a function of its setup and of the levels that it saw (Bosch CAN 2.0 part B, section 10): the quanta whose beat is a
-- bit's start. Where an edge lies in the quantum before the one that finds it, that is the one that finds it (this project's profile).
use Rattle.std.specs.Prelude.{ℕ, Bool, true, false, List, [], ◌∷◌, ◌++◌, length, fold, if◌then◌else◌}
use Rattle.wl_level.specs.declared.Level.{Level}
use Rattle.wl_sync.specs.declared.Beat.{Beat}
use Rattle.wl_sync.specs.declared.Beat.TheVariants as beats
use Rattle.wl_sync.specs.Bits.{beat_of}
use Rattle.wl_node.specs.declared.setup.NodeSetup.{NodeSetup}
use Rattle.wl_node.specs.History.{History, no_history, history_after, seen_next, levels_there}

abbrev pub is_start : Beat → Bool
is_start beats.Start = true
is_start beats.Plain = false
is_start (beats.Sample _) = false

-- the next quantum, at which the node sees this level, begins a bit
abbrev pub starts_next : NodeSetup → History → Level → Bool
starts_next setup h level = is_start (beat_of setup.segments h.seen (seen_next h level))

-- one quantum more, if it begins a bit
abbrev pub with_start : List ℕ → ℕ → Bool → List ℕ
with_start before quantum starts = before ++ (if starts then quantum ∷ [] else [])

-- a history with the quanta that begin a bit, one quantum later
abbrev pub started_after : NodeSetup → History × List ℕ → Level → History × List ℕ
started_after setup (h, before) level = (history_after setup h level, with_start before (length h.seen) (starts_next setup h level))

-- the quanta that begin a bit, of a node that never leaves and saw these levels, the first one first
unfoldable pub staying_starts : NodeSetup → List Level → List ℕ
staying_starts setup levels = (fold (started_after setup) (no_history, []) levels).1

-- the quanta that begin a bit, of a node that saw these levels, which may leave the bus
abbrev pub starts_of : NodeSetup → List Level → List ℕ
starts_of setup levels = staying_starts setup (levels_there setup.until levels)
