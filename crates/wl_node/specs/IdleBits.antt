-- Bits of a recessive line on a free bus, in which no frame is ready: each is sampled, and nothing else comes of it.
use Rattle.std.specs.Prelude.{◌≡◌, ℕ, ◌+◌, true, List, [], ◌∷◌, ◌++◌, length, None}
use Rattle.wl_level.specs.declared.Level.TheVariants.{Recessive}
use Rattle.wl_sync.specs.declared.Seen.{Seen}
use Rattle.wl_sync.specs.Running.{Follows}
use Rattle.wl_sync.specs.Skips.{IsRestingBit}
use Rattle.wl_confine.specs.declared.Mode.{Mode}
use Rattle.wl_machine.specs.Stretch.{Input}
use Rattle.wl_machine.specs.Stretch.Input.{Sample}
use Rattle.wl_machine.specs.Judged.{stretch_of, is_free_sort}
use Rattle.wl_machine.specs.Reached.{IsMachine}
use Rattle.wl_machine.specs.States.{sample_of}
use Rattle.wl_node.specs.declared.setup.NodeSetup.{NodeSetup}
use Rattle.wl_node.specs.declared.progress.NodeProgress.{NodeProgress}
use Rattle.wl_node.specs.History.{History, seen_next, unsent_of, ready_head}
use Rattle.wl_node.specs.Quiet.{pending_of}

-- so many recessive quanta are such a bit
pub record IsRest (setup : NodeSetup) (kept : NodeProgress) (h : History) (n : ℕ) : Type 0 where
  pub free : is_free_sort (stretch_of h.inputs).sort ≡ true
  pub settled : h.drive ≡ pending_of h
  pub bit : IsRestingBit setup.segments h.seen (seen_next h Recessive) n
  pub none : ready_head (unsent_of setup h) (length h.seen + bit.last) ≡ None
  pub stays : (past : List Input) (mode : Mode) → IsMachine kept.traffic.machine past → IsMachine kept.traffic.machine (past ++ Sample (sample_of Recessive None mode) ∷ [])

-- as many recessive quanta more are such a bit, wherever the node is, as long as no frame is ready
pub record AlwaysRests (kept : NodeProgress) (n : ℕ) : Type 0 where
  pub free : (past : List Input) → IsMachine kept.traffic.machine past → is_free_sort (stretch_of past).sort ≡ true
  pub settled : kept.drive ≡ kept.traffic.pending
  pub bit : Follows kept.clock (λ l past. (x : Seen) → x.level ≡ Recessive → IsRestingBit l past x n)
  pub stays : (past : List Input) (mode : Mode) → IsMachine kept.traffic.machine past → IsMachine kept.traffic.machine (past ++ Sample (sample_of Recessive None mode) ∷ [])
