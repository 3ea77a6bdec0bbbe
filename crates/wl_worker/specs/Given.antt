-- What a worker gives first. This project's profile; for a reader who knows simulation: the null messages before the first event (Chandy and
-- Misra 1979).
use Rattle.std.specs.Prelude.{◌≡◌, ◌⊎◌, List, [], ◌++◌, length}
use Rattle.wl_record_core.specs.declared.record.Record.{Record}
use Rattle.wl_plan.specs.PlanLine.{line_of}
use Rattle.wl_group.specs.Party.{initial_silences}
use Rattle.wl_group.specs.GroupValue.{GroupValue, belongs}

-- some records were given by a link, if there are any
abbrev pub Gives : {L : Type 0} → (L → L → List Record → Type 0) → L → L → List Record → Type 0
Gives gave old new records = ((records ≡ []) × (new ≡ old)) ⊎ gave old new records

-- what a group's members say before their first quanta, as a group that begins knows it
abbrev pub first_silences_of : GroupValue → List Record
first_silences_of g = initial_silences (line_of g.plan) (belongs g) (length g.plan.nodes)

-- they were given
abbrev pub GaveFirst : {L : Type 0} → (L → L → List Record → Type 0) → GroupValue → L → L → Type 0
GaveFirst gave group old new = Gives gave old new (first_silences_of group)

-- these records were given by a link, one call after another
pub data AllGiven {L : Type 0} (gave : L → L → List Record → Type 0) : List Record → Type 0 where
  none : AllGiven gave []
  more : {rs records : List Record} (old new : L) → AllGiven gave rs → Gives gave old new records → AllGiven gave (rs ++ records)

-- What a group has emitted more than before was given, if it is anything.
pub record GaveMore {L : Type 0} (gave : L → L → List Record → Type 0) (old new : GroupValue) : Type 0 where
  pub said : List Record
  pub emitted : new.emitted ≡ old.emitted ++ said
  pub from : L
  pub to : L
  pub given : Gives gave from to said

-- All that a group has emitted since it was the old one was given, or since it began again.
pub record GaveSince {L : Type 0} (gave : L → L → List Record → Type 0) (old new : GroupValue) : Type 0 where
  pub before : List Record
  pub given : List Record
  pub begun : (before ≡ old.emitted) ⊎ (before ≡ [])
  pub emitted : new.emitted ≡ before ++ given
  pub all : AllGiven gave given
