-- The answer of an advance, as the machine's reply, and what calls say of every party that a group was. This project's profile.
use Rattle.wl_group.specs.declared.answer.Advance.{Advance}
use Rattle.wl_group.specs.declared.answer.Advance.TheVariants as answers
use Rattle.std.specs.Prelude.{◌≡◌, ℕ, List, length}
use Rattle.wl_record_core.specs.declared.record.Record.{Record}
use Rattle.wl_replica.specs.State.{State, state_of}
use Rattle.wl_plan.specs.PlanLine.{line_of}
use Rattle.wl_group.specs.Advanced.{Reply, emitted, blocked, ended, HasAdvanced}
use Rattle.wl_group.specs.GroupValue.{GroupValue, Matches, belongs}
use Rattle.wl_group.specs.Party.{Party, party_with}

abbrev pub reply_of_answer : Advance → Reply
reply_of_answer (answers.Emitted records) = emitted records.items
reply_of_answer answers.Blocked = blocked
reply_of_answer answers.Ended = ended

-- an advance of node i answered a: as the machine's advance of every party that the group was
abbrev pub HasAnswered : ℕ → GroupValue → GroupValue → Advance → Type 0
HasAnswered i old new a = HasAdvanced Matches (line_of old.plan) (belongs old) i old new (reply_of_answer a)

-- what knew this and was joined in: every party that the group was has taken the records of it
abbrev pub HasJoined : State → GroupValue → GroupValue → Type 0
HasJoined other old new =
    (p : Party) (rs : List Record) → Matches p old → other ≡ state_of (length old.plan.nodes) rs → Matches (party_with rs p) new
