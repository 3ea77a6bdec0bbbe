-- When an advance replies what: `emitted` exactly where the node may run, `ended` exactly where it is a member at the end, `blocked` else;
-- and what several of them leave. This project's profile.
use Rattle.std.specs.Prelude.{◌≡◌, ◌⊎◌, ◌↔◌, ℕ, ◌≤◌, Bool, true, false, List, ◌++◌}
use Rattle.wl_record_core.specs.declared.record.Record.{Record}
use Rattle.wl_plan.specs.Line.{Line}
use Rattle.wl_group.specs.Member.{next_tick}
use Rattle.wl_group.specs.Party.{Party}
use Rattle.wl_group.specs.Advanced.{emitted, blocked, ended, can_advance, emission_of, reply_of, after_advance, Steps}

-- node i is a member whose next quantum is not below the end
abbrev pub IsAtEnd : Line → (ℕ → Bool) → Party → ℕ → Type 0
IsAtEnd l belongs p i = (belongs i ≡ true) × (l.stop ≤ next_tick l i (p.members i))

pub record AdvanceLaws : Type 0 where
  pub emitted_iff : (l : Line) (belongs : ℕ → Bool) (p : Party) (i : ℕ) → (reply_of l belongs p i ≡ emitted (emission_of l p i)) ↔ (can_advance l belongs p i ≡ true)
  pub ended_iff : (l : Line) (belongs : ℕ → Bool) (p : Party) (i : ℕ) → (reply_of l belongs p i ≡ ended) ↔ IsAtEnd l belongs p i
  pub blocked_iff : (l : Line) (belongs : ℕ → Bool) (p : Party) (i : ℕ)
      → (reply_of l belongs p i ≡ blocked) ↔ ((can_advance l belongs p i ≡ false) × ¬ (IsAtEnd l belongs p i))
  -- where it does not emit nothing changes
  pub refused_stays : (l : Line) (belongs : ℕ → Bool) (p : Party) (i : ℕ)
      → (reply_of l belongs p i ≡ blocked) ⊎ (reply_of l belongs p i ≡ ended) → after_advance l belongs i p ≡ p
  -- what a group emitted grows by exactly what its advances emitted
  pub steps_emitted : (l : Line) (belongs : ℕ → Bool) (p q : Party) (rs : List Record) → Steps l belongs p rs q → q.emitted ≡ p.emitted ++ rs
