-- A node of a group, as the machine of groups has it: what it has seen, when it may run its next quantum, and what it says then.
-- Chandy and Misra 1979: a process runs an event only where no earlier input can still come, and promises how long it will be silent.
use Rattle.std.specs.Prelude.{ℕ, suc, Bool, ◌&&◌, List, [], ◌∷◌, ◌++◌, length, nat_lt, if◌then◌else◌}
use Rattle.wl_level.specs.declared.Level.{Level}
use Rattle.wl_level.specs.Levels.{level_of}
use Rattle.wl_record_core.specs.declared.record.Record.{Record}
use Rattle.wl_record_core.specs.declared.record.Record.TheVariants.{Edge, Silence}
use Rattle.wl_replica.specs.Slots.{Contents}
use Rattle.wl_replica.specs.Known.{place_horizon, wave_at}
use Rattle.wl_plan.specs.Line.{Line, found, reach}
use Rattle.wl_plan.specs.Simulation.{differs}

-- the levels that it has seen, the oldest first, and how often its drive has changed
pub record Member : Type 0 where
  pub saw : List Level
  pub changed : ℕ

-- before its first quantum
abbrev pub fresh : Member
fresh = record { saw = []; changed = 0 }

-- the tick of its next quantum
abbrev pub next_tick : Line → ℕ → Member → ℕ
next_tick l i m = l.instant i (length m.saw)

-- whether that is below the end, and below what slots w tell of the line at its place
abbrev pub can_run : Line → ℕ → Member → Contents → Bool
can_run l i m w = nat_lt (next_tick l i m) l.stop && nat_lt (next_tick l i m) (place_horizon l.nodes l.delay w i)

-- the level that it reads then, from the waves and the disturbances
abbrev pub level_read : Line → ℕ → Member → Contents → Level
level_read l i m w = level_of (found l (wave_at w) i (next_tick l i m))

-- whether its drive changes where it reads this level
abbrev pub turns : Line → ℕ → Member → Level → Bool
turns l i m level = differs (l.drives i (m.saw ++ level ∷ [])) (l.drives i m.saw)

-- after the quantum that read this level
abbrev pub member_after_quantum : Line → ℕ → Member → Level → Member
member_after_quantum l i m level =
    record {
      saw = m.saw ++ level ∷ [];
      changed = if turns l i m level then suc m.changed else m.changed;
    }

-- the edge that it says then, where its drive changed
abbrev pub edge_said : Line → ℕ → Member → Level → List Record
edge_said l i m level = if turns l i m level then Edge i m.changed (next_tick l i m) ∷ [] else []

-- what it says then: that edge, and a silence as far as its drive is sure to stay
abbrev pub emission : Line → ℕ → Member → Level → List Record
emission l i m level = edge_said l i m level ++ Silence i (member_after_quantum l i m level).changed (reach l i (member_after_quantum l i m level).saw) ∷ []
