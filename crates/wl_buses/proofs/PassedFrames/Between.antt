-- A node takes no sample between those of a bit and of the next one, if what it is expected to see makes its bit clock go so.
use Rattle.std.proofs.Common.{◌≡◌, ◌∙◌, sym, ℕ, suc, ◌<◌, ◌≤◌, Bool, arith}
use Rattle.wl_level.specs.declared.Level.{Level}
use Rattle.wl_machine.specs.Stretch.{Stretch}
use Rattle.wl_machine.specs.Judged.{awaits_start, is_idle_sort, stretch_of}
use Rattle.wl_node.specs.declared.setup.NodeSetup.{NodeSetup}
use Rattle.wl_node.specs.History.{History, is_integration}
use Rattle.wl_sync.specs.declared.Seen.{Seen}
use Rattle.wl_buses.specs.OneFrame.Clocked.{BitIs}
use Rattle.wl_buses.specs.OneFrame.Expected.{Outset, expected_bits, expected_sample, past_at}
use Rattle.wl_buses.specs.OneFrame.Nodes.{IsInBit, IsRun, clock_sees}
use Rattle.wl_buses.specs.OneFrame.Stations.{Stations}
use Rattle.wl_buses.proofs.OneFrame.Nodes.{Same, drives, same_at, sees_in}
use Rattle.wl_buses.proofs.PassedFrames.Samples.{NoneSamples, unsampled}
use Rattle.wl_buses.proofs.FrameEnd.Sampling as sampling

module _ (setup : NodeSetup) (levels : ℕ → Level) (node : ℕ → History) (run : IsRun setup levels node) (s : Stations) (o : Outset) (i n : ℕ) (segments : setup.segments ≡ s.lengths i)
    (at : IsInBit s o i levels node n) (begins_after : expected_sample s o n i < (expected_bits s o (suc n)).from i) where
  abbrev S : ℕ
  S = expected_sample s o n i

  abbrev S' : ℕ
  S' = expected_sample s o (suc n) i

  abbrev F : ℕ
  F = (expected_bits s o (suc n)).from i

  abbrev X : Stretch
  X = stretch_of (past_at s o (suc n) i)

  abbrev v : ℕ → Bool
  v = drives setup levels node run s o i n segments at begins_after

  abbrev pub expects : ℕ → Seen
  expects = sees_in setup levels node run s o i n segments at begins_after

  pub expects_there : (q : ℕ) → S < q → expects q ≡ record { level = levels q; idle = is_idle_sort X.sort; awaits = awaits_start X; integrates = is_integration X.sort; driving = v q }
  expects_there = sampling.new_there setup levels node run s o i n segments at begins_after

  module _ (level : Level) (bit : BitIs (s.lengths i) expects S ((expected_bits s o (suc n)).place i) F level) (longer : S < S') where
    same : (q : ℕ) → S < q → q ≤ S' → Same setup levels node run (s.lengths i) segments S S' X v at.stretch (sampling.first setup levels node run s o i n segments at begins_after) (sampling.passes setup levels node run s o i n segments at begins_after level bit) longer q
    same = same_at setup levels node run (s.lengths i) segments S S' X v at.stretch (sampling.first setup levels node run s o i n segments at begins_after) (sampling.passes setup levels node run s o i n segments at begins_after level bit) longer

    pub none_between : NoneSamples (s.lengths i) (clock_sees levels node) S S'
    none_between q more less =
        unsampled setup levels node run (s.lengths i) segments q ((same (suc q) (omega arith) (omega arith)).inputs ∙ sym (same q more (omega arith)).inputs)
