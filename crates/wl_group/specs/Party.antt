-- A group of nodes that runs by itself, as the machine has it: its members, what it has taken, what it has emitted. This project's profile,
-- after Chandy and Misra 1979; for a reader who knows simulation: one logical process with several components.
use Rattle.std.specs.Prelude.{ℕ, zero, suc, Bool, List, [], ◌∷◌, ◌++◌, ◌==◌, if◌then◌else◌}
use Rattle.wl_level.specs.declared.Level.{Level}
use Rattle.wl_record_core.specs.declared.record.Record.{Record}
use Rattle.wl_record_core.specs.declared.record.Record.TheVariants.{Silence}
use Rattle.wl_replica.specs.Slots.{Contents, slots_of_records}
use Rattle.wl_plan.specs.Line.{Line, reach}
use Rattle.wl_group.specs.Member.{Member, fresh, member_after_quantum, emission}

pub record Party : Type 0 where
  -- for each node of the line its state, which counts where the node is one of the group
  pub members : ℕ → Member
  -- the records that it has taken, the newest first: its own and those that came
  pub taken : List Record
  -- the records that its advances have emitted, the oldest first
  pub emitted : List Record

-- what it knows
abbrev pub slots : Party → Contents
slots p = slots_of_records p.taken

-- f with this at i
abbrev pub put : {A : Type 0} → (ℕ → A) → ℕ → A → ℕ → A
put f i a = λ j. if j == i then a else f j

-- the first silences of the nodes below n that pass: that node i keeps its first drive for a while
abbrev pub initial_silences : Line → (ℕ → Bool) → ℕ → List Record
initial_silences l test zero = []
initial_silences l test (suc n) = initial_silences l test n ++ (if test n then Silence n 0 (reach l n []) ∷ [] else [])

-- a group that begins, or begins again: fresh nodes, and nothing known but its members' first silences
abbrev pub initial_party : Line → (ℕ → Bool) → Party
initial_party l belongs = record { members = λ i. fresh; taken = initial_silences l belongs l.nodes; emitted = [] }

-- after it took some records
abbrev pub party_with : List Record → Party → Party
party_with rs p = record p { taken = rs ++ p.taken }

-- after its member i ran a quantum that read this level
abbrev pub party_after_quantum : Line → ℕ → Level → Party → Party
party_after_quantum l i level p =
    record {
      members = put p.members i (member_after_quantum l i (p.members i) level);
      taken = emission l i (p.members i) level ++ p.taken;
      emitted = p.emitted ++ emission l i (p.members i) level;
    }
