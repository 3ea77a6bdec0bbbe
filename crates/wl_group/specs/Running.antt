-- A member's next quantum, and the group's after it. This project's profile.
use Rattle.std.specs.Prelude.{◌≡◌, ℕ, suc, ◌+◌, ◌-◌, ◌<◌, ◌≤◌, replicate, Bool, List, [], ◌∷◌, ◌++◌, length, Option, None, Some, true, false, not, nat_le, if◌then◌else◌}
use Rattle.wl_level.specs.declared.Level.{Level}
use Rattle.wl_record_core.specs.declared.record.Record.{Record}
use Rattle.wl_record_core.specs.declared.record.Slot.{Slot}
use Rattle.wl_record_core.specs.declared.record.Slot.TheVariants.{EdgeAt, SilenceAt}
use Rattle.wl_record_core.specs.Truth.{AreTrueOf}
use Rattle.wl_replica.specs.State.{slots_of}
use Rattle.wl_node.specs.Reached.{IsNode, keeps_lists, node_setup, quanta_of}
use Rattle.wl_plan.specs.declared.plan.Plan.{Plan}
use Rattle.wl_plan.specs.Limits.{most_quanta}
use Rattle.wl_plan.specs.Line.{Line}
use Rattle.wl_plan.specs.PlanLine.{setup_at, line_of, table_of}
use Rattle.wl_group.specs.declared.cell.Cell.{Cell}
use Rattle.wl_group.specs.Member.{Member, next_tick, can_run, turns, member_after_quantum}
use Rattle.wl_group.specs.Party.{Party}
use Rattle.wl_group.specs.Ways.{AreWays}
use Rattle.wl_group.specs.Advanced.{Reply, emitted, blocked, ended, emission_of, run_next}
use Rattle.wl_group.specs.GroupValue.{GroupValue, IsGroupValue, Matches, quanta_at, belongs, members_now, may_run, emission_at, run_on}

-- What a group keeps of node i stands where this member of the machine does.
pub record IsCellOf (plan : Plan) (i : ℕ) (m : Member) (cell : Cell) : Type 0 where
  pub setup : node_setup cell.node ≡ setup_at plan i
  pub node : IsNode m.saw cell.node
  pub changed : cell.changed ≡ m.changed
  pub next : cell.next ≡ (line_of plan).instant i (quanta_of cell.node)
  pub ways : AreWays plan i cell.ways

-- a member after so many quanta more, at which it read this level and kept its drive
abbrev pub passed : Member → Level → ℕ → Member
passed m level n = record { saw = m.saw ++ replicate n level; changed = m.changed }

-- up to so many quanta more of this level node i drives what it drove
abbrev pub Stood : Line → ℕ → Member → Level → ℕ → Type 0
Stood l i m level n = (j : ℕ) → j ≤ n → l.drives i (m.saw ++ replicate j level) ≡ l.drives i m.saw

-- One cell and a later one: at n quanta more and one it read this level, and its drive turned at the last if at any; and whether it did. Of every plan and member.
pub record HasGone (level : Level) (most : ℕ) (old new : Cell) (turned : Bool) : Type 0 where
  pub n : ℕ
  pub few : n < most
  pub quanta : quanta_of new.node ≡ quanta_of old.node + suc n
  pub keeps : keeps_lists new.node ≡ keeps_lists old.node
  pub stood : (plan : Plan) (i : ℕ) (m : Member) → IsCellOf plan i m old → Stood (line_of plan) i m level n
  pub after : (plan : Plan) (i : ℕ) (m : Member) → IsCellOf plan i m old → IsCellOf plan i (member_after_quantum (line_of plan) i (passed m level n) level) new
  pub turned_is : (plan : Plan) (i : ℕ) (m : Member) → IsCellOf plan i m old → turned ≡ turns (line_of plan) i (passed m level n) level

-- or none
pub record HasNotGone (old new : Cell) : Type 0 where
  pub quanta : quanta_of new.node ≡ quanta_of old.node
  pub keeps : keeps_lists new.node ≡ keeps_lists old.node
  pub same : (plan : Plan) (i : ℕ) (m : Member) → IsCellOf plan i m old → IsCellOf plan i m new

-- the slots of which node i may say something at its next quanta, up to one that turns its drive, after so many changes
abbrev pub slots_ahead : ℕ → ℕ → List Slot
slots_ahead i changed = EdgeAt i changed ∷ SilenceAt i changed ∷ SilenceAt i (changed + 1) ∷ []

-- how many quanta may still come
abbrev pub quanta_to_come : List (Option ℕ) → ℕ
quanta_to_come [] = 0
quanta_to_come (None ∷ ran) = quanta_to_come ran
quanta_to_come (Some k ∷ ran) = (most_quanta - k) + quanta_to_come ran

abbrev pub quanta_left : GroupValue → ℕ
quanta_left g = quanta_to_come g.ran

-- Node i ran its next quantum and this was said, as in every party that the group was before; fewer quanta are left.
pub record HasRunNext (i : ℕ) (old new : GroupValue) (said : List Record) : Type 0 where
  pub node : i < length old.plan.nodes
  pub emits : said ≡ emission_at old i
  pub runs : (k : ℕ) → quanta_at old i ≡ Some k → new ≡ run_on i k old
  pub emitted : (p : Party) → Matches p old → said ≡ emission_of (line_of old.plan) p i
  pub after : (p : Party) → Matches p old → Matches (run_next (line_of old.plan) i p) new
  pub plan : new.plan ≡ old.plan
  pub lists : new.lists ≡ old.lists
  pub members : belongs new ≡ belongs old
  pub fewer : quanta_left new < quanta_left old

-- what an advance of node i replies, by the group's value: `ended` comes before `blocked`
abbrev pub reply_at : GroupValue → ℕ → Reply
reply_at g i =
    if not (belongs g i) then blocked
    else if nat_le g.plan.end (next_tick (line_of g.plan) i (members_now g i)) then ended
    else if can_run (line_of g.plan) i (members_now g i) (slots_of g.replica) then emitted (emission_at g i)
    else blocked

-- An advance of node i replied a and made new of old, by their values alone: it ran the next quantum exactly where the node may run it.
pub record HasReplied (i : ℕ) (old new : GroupValue) (a : Reply) : Type 0 where
  pub reply : a ≡ reply_at old i
  pub ran : may_run old i ≡ true → (k : ℕ) → quanta_at old i ≡ Some k → new ≡ run_on i k old
  pub stays : may_run old i ≡ false → new ≡ old

-- ---- quanta that run one after another

-- each of them may, and they emit these records
pub data Ran : GroupValue → List Record → GroupValue → Type 0 where
  none : {g : GroupValue} → Ran g [] g
  more : {g h : GroupValue} {rs : List Record} (i k : ℕ) → quanta_at g i ≡ Some k → may_run g i ≡ true → Ran (run_on i k g) rs h → Ran g (emission_at g i ++ rs) h

-- What such a run leaves: a group of the same plan and members, whose nodes list as before; it has emitted what it had emitted and these records, all of them true.
pub record HasRunOn (old new : GroupValue) (rs : List Record) : Type 0 where
  pub value : IsGroupValue new
  pub plan : new.plan ≡ old.plan
  pub lists : new.lists ≡ old.lists
  pub members : belongs new ≡ belongs old
  pub emitted : new.emitted ≡ old.emitted ++ rs
  pub said_true : AreTrueOf (length old.plan.nodes) (table_of old.plan) rs
