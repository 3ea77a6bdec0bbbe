-- What is handed to a group. This project's profile; for a reader who knows simulation: the messages of other processes that have
-- arrived, in any number and order (Chandy and Misra 1979).
use Rattle.std.specs.Prelude.{◌≡◌, ◌≢◌, Bool, MatchBool, List}
use Rattle.wl_record_core.specs.declared.record.Record.{Record}
use Rattle.wl_replica.specs.State.{State, state_with_record}
use Rattle.wl_group.specs.GroupValue.{GroupValue, with_records}
use Rattle.wl_mail.specs.Truth.{AreTrueOfPlan}

-- the group took some records, all of them true of its plan, and is else as it was
pub record Took (old new : GroupValue) : Type 0 where
  pub more : List Record
  pub are_true : AreTrueOfPlan old.plan more
  pub taken : new ≡ with_records more old

-- whether that changed what it knows
abbrev pub TellsNews : GroupValue → GroupValue → Bool → Type 0
TellsNews old new answer = MatchBool answer (new.replica ≢ old.replica) (new ≡ old)

-- whether a record says something that a state doesn't know
abbrev pub IsNews : State → Record → Bool → Type 0
IsNews known entry answer = MatchBool answer (state_with_record known entry ≢ known) (state_with_record known entry ≡ known)
