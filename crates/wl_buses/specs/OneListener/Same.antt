-- What is expected of the others is the same with a listener as without it.
use Rattle.std.specs.Prelude.{◌≡◌, ℕ, ◌+◌, ◌<◌, ◌≤◌}
use Rattle.wl_buses.specs.OneFrame.Expected.{Outset, expected_bits, expected_drove, past_at}
use Rattle.wl_buses.specs.OneFrame.Stations.{Stations}
use Rattle.wl_buses.specs.OneListener.Beside.{with_listener}

-- Up to the third bit of the intermission the same reaches their machines, each of their bits begins with the same quanta, and they drive the same.
pub record ExpectsTheSame (s : Stations) (o : Outset) (end : ℕ) : Type 0 where
  pub past : (n k : ℕ) → n ≤ end + 13 → past_at (with_listener s) o n k ≡ past_at s o n k
  pub place : (n i : ℕ) → n ≤ end + 12 → i < s.count → (expected_bits (with_listener s) o n).place i ≡ (expected_bits s o n).place i
  pub from : (n i : ℕ) → n ≤ end + 12 → i < s.count → (expected_bits (with_listener s) o n).from i ≡ (expected_bits s o n).from i
  pub drove : (i t : ℕ) → i < s.count → expected_drove (with_listener s) o (end + 13) i t ≡ expected_drove s o (end + 13) i t
