-- What a bit clock sees at the end of a frame.
use Rattle.std.specs.Prelude.{◌≡◌, ℕ, suc, ◌+◌, ◌<◌, ◌≤◌, false}
use Rattle.wl_level.specs.Levels.{level_of}
use Rattle.wl_sync.specs.declared.Seen.{Seen}
use Rattle.wl_topology.specs.Driven.{driven}
use Rattle.wl_phase.specs.Clocks.{steady_tick}
use Rattle.wl_buses.specs.OneFrame.Stations.{Stations}
use Rattle.wl_buses.specs.OneFrame.Expected.{Outset, expected_bits, expected_drove, expected_sample, wants}

-- Between its samples of bit n and of the next one station i sees what is expected up to the third bit of the intermission. If the next one is the ACK slot it awaits no start of frame, and
-- drives the slot as is expected.
pub record SeesEnd (s : Stations) (o : Outset) (end i : ℕ) (seen : ℕ → Seen) (n : ℕ) : Type 0 where
  pub level : (q : ℕ) → expected_sample s o n i < q → q ≤ expected_sample s o (suc n) i
      → (seen q).level ≡ level_of (driven s.count s.delay (expected_drove s o (end + 13)) i (steady_tick (s.clocks i) q))
  pub awaits : (q : ℕ) → n ≡ end → expected_sample s o n i < q → q ≤ expected_sample s o (suc n) i → (seen q).awaits ≡ false
  pub before : (q : ℕ) → n ≡ end → expected_sample s o n i < q → q ≤ (expected_bits s o (suc n)).from i → (seen q).driving ≡ wants s o n i
  pub after : (q : ℕ) → n ≡ end → (expected_bits s o (suc n)).from i < q → q ≤ expected_sample s o (suc n) i → (seen q).driving ≡ wants s o (suc n) i
