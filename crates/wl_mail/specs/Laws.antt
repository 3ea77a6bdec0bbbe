-- What holds of all that a group takes. This project's profile.
use Rattle.std.specs.Prelude.{◌≡◌, Bool, ◌||◌, List, [], ◌++◌}
use Rattle.wl_record_core.specs.declared.record.Record.{Record}
use Rattle.wl_group.specs.GroupValue.{GroupValue, with_records}
use Rattle.wl_mail.specs.Handed.{Took, TellsNews}

pub record TakingLaws : Type 0 where
  -- a group that takes no record is as it was
  pub nothing : (group : GroupValue) → group ≡ with_records [] group
  -- some records and then others are both
  pub in_parts : (group : GroupValue) (rs others : List Record) → with_records others (with_records rs group) ≡ with_records (rs ++ others) group
  -- so who took some and then others took both
  pub further : (old mid new : GroupValue) → Took old mid → Took mid new → Took old new
  -- which changed what it knows where one of the two did
  pub news : (old mid new : GroupValue) → Took old mid → Took mid new → (first second : Bool) → TellsNews old mid first → TellsNews mid new second
      → TellsNews old new (first || second)
