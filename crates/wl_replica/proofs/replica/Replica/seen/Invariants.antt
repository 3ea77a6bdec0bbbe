use Rattle.std.proofs.Common.{◌≡◌, ℕ, ◌-◌, ◌&&◌, false, nat_le}
use Rattle.wl_topology.specs.Delays.{delay_of}
use Rattle.wl_topology.specs.Driven.{any_below}
use Rattle.wl_replica.specs.State.{slots_of}
use Rattle.wl_replica.specs.Known.{wave_at}
use Rattle.wl_replica.proofs.replica.Replica.seen.Given as goal

-- no node so far drove dominant
abbrev pub invariant-loop-i : goal.invariant-loop-i
invariant-loop-i l = any_below l.i (λ (i : ℕ). nat_le (delay_of l.topology i l.j) l.t && wave_at (slots_of l.self) i (l.t - delay_of l.topology i l.j)) ≡ false
