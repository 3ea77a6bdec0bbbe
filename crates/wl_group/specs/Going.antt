-- Quanta of a member in a row, of which the group says the last promise and the change alone. This project's profile, after Chandy and Misra 1979:
-- each of them is an event that is safe, and a process may send what it comes to in the place of each message.
use Rattle.std.specs.Prelude.{◌≡◌, ℕ, ◌+◌, ◌-◌, ◌<◌, ◌≤◌, true, List, [], ◌∷◌, ◌++◌, length, Some, slice_set, if◌then◌else◌, Contains}
use Rattle.wl_record_core.specs.declared.record.Record.{Record}
use Rattle.wl_record_core.specs.declared.record.Record.TheVariants.{Edge, Silence}
use Rattle.wl_record_core.specs.Truth.{AreTrueOf}
use Rattle.wl_replica.specs.State.{slots_of, state_with_records}
use Rattle.wl_replica.specs.Known.{place_horizon}
use Rattle.wl_plan.specs.Line.{reach}
use Rattle.wl_plan.specs.PlanLine.{line_of, table_of}
use Rattle.wl_plan.specs.Simulation.{differs}
use Rattle.wl_group.specs.Party.{Party}
use Rattle.wl_group.specs.Advanced.{Steps}
use Rattle.wl_group.specs.Member.{next_tick}
use Rattle.wl_group.specs.Running.{quanta_left}
use Rattle.wl_group.specs.Led.{LedTo}
use Rattle.wl_group.specs.GroupValue.{GroupValue, Matches, quanta_at, belongs, member_after, members_now}

-- what a group says after n quanta in a row of node i, which had run k: the change of its drive, which is at the last of them, and its promise then
abbrev pub told_by : GroupValue → ℕ → ℕ → ℕ → List Record
told_by g i k n =
    let l = line_of g.plan in
    let old = member_after l i k in
    let new = member_after l i (k + n) in
    (if differs (l.drives i new.saw) (l.drives i old.saw) then Edge i old.changed (l.instant i (k + n - 1)) ∷ [] else [])
    ++ Silence i new.changed (reach l i new.saw) ∷ []

-- the group after it ran up to so many quanta of node i, and said this
abbrev pub gone_on : GroupValue → ℕ → ℕ → List Record → GroupValue
gone_on g i k said = record {
  plan = g.plan;
  lists = g.lists;
  ran = slice_set g.ran i (Some k);
  replica = state_with_records g.replica said;
  emitted = g.emitted ++ said;
}

-- The machine gets there from a party by its advances, one quantum after another, and of what they emit the group says some.
pub record AdvancesTo (old new : GroupValue) (said : List Record) (p : Party) : Type 0 where
  pub q : Party
  pub emitted : List Record
  pub steps : Steps (line_of old.plan) (belongs old) p emitted q
  pub members : (j : ℕ) → belongs new j ≡ true → q.members j ≡ members_now new j
  pub some : (r : Record) → Contains said r → Contains emitted r

-- Node i ran n quanta in a row, and this was said of them; fewer quanta are left.
pub record HasGoneOn (i : ℕ) (old new : GroupValue) (said : List Record) : Type 0 where
  pub k : ℕ
  pub n : ℕ
  pub some : 0 < n
  pub ran : quanta_at old i ≡ Some k
  pub said_is : said ≡ told_by old i k n
  pub new_is : new ≡ gone_on old i (k + n) said
  pub advances : (p : Party) → Matches p old → AdvancesTo old new said p
  pub led : LedTo old new
  pub said_true : AreTrueOf (length old.plan.nodes) (table_of old.plan) said
  pub fewer : quanta_left new < quanta_left old

-- the tick below which the line at node i's place is known
abbrev pub IsKnownAt : GroupValue → ℕ → ℕ → Type 0
IsKnownAt g i known = known ≡ place_horizon (length g.plan.nodes) (line_of g.plan).delay (slots_of g.replica) i

-- a tick after that of its next quantum, and no later
pub record IsKnownUpTo (g : GroupValue) (i tick : ℕ) : Type 0 where
  pub due : next_tick (line_of g.plan) i (members_now g i) < tick
  pub known : tick ≤ place_horizon (length g.plan.nodes) (line_of g.plan).delay (slots_of g.replica) i
