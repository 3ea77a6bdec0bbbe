-- What is kept of a node that runs again over the levels that it saw.
use Rattle.std.specs.Prelude.{◌≡◌, ◌≤◌, ◌+◌, ◌-◌, ℕ, suc, Bool, List, [], ◌∷◌, ◌++◌, length, replicate, if◌then◌else◌}
use Rattle.wl_level.specs.declared.Level.{Level}
use Rattle.wl_sync.specs.declared.Beat.{Beat}
use Rattle.wl_sync.specs.declared.Beat.TheVariants as beats
use Rattle.wl_sync.specs.Running.{clock_after}
use Rattle.wl_node.specs.declared.setup.NodeSetup.{NodeSetup}
use Rattle.wl_node.specs.History.{History, staying_history}
use Rattle.wl_trace.specs.declared.staying_rerun.StayingRerun.{StayingRerun}
use Rattle.wl_trace.specs.declared.event.Noted.{Noted}
use Rattle.wl_trace.specs.Replay.{IsSampledNode, past_of}
use Rattle.wl_trace.specs.Snapshot.{mark}
use Rattle.wl_trace.specs.Starts.{staying_starts}
use Rattle.wl_trace.specs.Synced.{staying_syncs}

-- how many bits have begun, with a quantum of this beat
abbrev pub starts_with : Beat → ℕ → ℕ
starts_with beats.Start n = suc n
starts_with beats.Plain n = n
starts_with (beats.Sample _) n = n

-- all but the bit clock is that of this history, in which so many bits have begun
pub record RunsTo (setup : NodeSetup) (kept : StayingRerun) (h : History) (starts : ℕ) : Type 0 where
  pub sampled_node : IsSampledNode setup kept.sampled_node (past_of h)
  pub drive : kept.drive ≡ h.drive
  pub bits : kept.bits ≡ length h.samples
  pub sampled : kept.sampled ≡ mark (length h.samples)
  pub started : kept.started ≡ mark starts

-- what is kept is that of a node of this setup that never leaves and saw these levels; it had no more samples than it saw quanta
pub record IsStayingRerun (setup : NodeSetup) (levels : List Level) (kept : StayingRerun) : Type 0 where
  pub clock : kept.clock ≡ clock_after setup.segments (staying_history setup levels).seen
  pub run : RunsTo setup kept (staying_history setup levels) (length (staying_starts setup levels))
  pub fewer : kept.bits ≤ length levels

-- the same, but that it may have begun any number of bits
pub record RunsStaying (setup : NodeSetup) (levels : List Level) (kept : StayingRerun) : Type 0 where
  pub starts : ℕ
  pub clock : kept.clock ≡ clock_after setup.segments (staying_history setup levels).seen
  pub run : RunsTo setup kept (staying_history setup levels) starts
  pub fewer : kept.bits ≤ length levels

-- From one node to another so many quanta of this level have run, of which the first has this number, and how their edges synchronised it was added to a list.
pub record StaysOver (setup : NodeSetup) (quantum n : ℕ) (level : Level) (old new : StayingRerun) (before after : List Noted) : Type 0 where
  pub run : (levels : List Level) → length levels ≡ quantum → RunsStaying setup levels old → RunsStaying setup (levels ++ replicate n level) new
  pub syncs : (levels : List Level) → length levels ≡ quantum → RunsStaying setup levels old → before ≡ staying_syncs setup levels
      → after ≡ staying_syncs setup (levels ++ replicate n level)

-- the samples of a node that never leaves and saw these levels
abbrev pub staying_samples : NodeSetup → List Level → List (ℕ × Level)
staying_samples setup levels = (staying_history setup levels).samples

-- the sample at a quantum, if it is one
abbrev pub sample_if : (sampled : Bool) → ℕ → Level → List (ℕ × Level)
sample_if sampled quantum level = if sampled then (quantum, level) ∷ [] else []

-- Of so many quanta of this level, of which the first has this number, the last one is a sample, or none is.
abbrev pub SamplesOver : NodeSetup → (quantum n : ℕ) → Level → (sampled : Bool) → StayingRerun → Type 0
SamplesOver setup quantum n level sampled old =
    (levels : List Level) → length levels ≡ quantum → RunsStaying setup levels old
    → staying_samples setup (levels ++ replicate n level) ≡ staying_samples setup levels ++ sample_if sampled (quantum + n - 1) level
