-- A finer form: an inequality for each instance of a message in a window, since a later one became ready later.
use Rattle.std.specs.Prelude.{ℕ, ◌+◌, ◌*◌, ◌<◌, ◌≤◌, ◌==◌, if◌then◌else◌}
use Rattle.wl_counts.specs.Counts.{sum_below}
use Rattle.wl_counts.specs.Waits.{Table, demand, share}

-- the greatest number of frames of message e in a window of m before its last frame, if j of them are of m
abbrev pub instance_share : Table → (m j w e : ℕ) → ℕ
instance_share t m j w e = if e == m then j else share t m w e

-- how long they take together
abbrev pub instance_demand : Table → (m j w : ℕ) → ℕ
instance_demand t m j w = sum_below (λ e. instance_share t m j w e * t.cost e) t.messages

-- the greatest number of frames of m in a window of m that has all its frames
abbrev pub instances : Table → (whole : ℕ → ℕ) → ℕ → ℕ
instances t whole m = t.most m (t.early m m + whole m)

-- Lengths of windows and greatest waits that pass the inequalities, for each message and each of its instances in a window, from 0 on. Instance j became ready j periods after the first at least;
-- Davis, Burns, Bril, Lukkien 2007, section 3.2, as a test.
pub record AreEnoughByInstances (t : Table) (period whole : ℕ → ℕ) (w : ℕ → ℕ → ℕ) (r : ℕ → ℕ) : Type 0 where
  pub all : (m : ℕ) → m < t.messages → t.blocking m + demand t m (whole m) ≤ whole m
  pub window : (m j : ℕ) → m < t.messages → j < instances t whole m → t.blocking m + instance_demand t m j (w m j) ≤ w m j
  pub wait : (m j : ℕ) → m < t.messages → j < instances t whole m → t.early m m + w m j + t.tail m ≤ r m + j * period m
