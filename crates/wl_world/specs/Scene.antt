-- The machine of groups: they advance by themselves, hand records to each other, join and restart, in any order. This project's profile,
-- after Chandy and Misra 1979; for a reader who knows simulation: all schedules of a conservative parallel simulation, lost and repeated messages too.
use Rattle.std.specs.Prelude.{ℕ, Bool, true, ◌&&◌, Option, Some, None, List, [], ◌∷◌, ◌++◌, length, nat_lt, ◌==◌, if◌then◌else◌, slice_get}
use Rattle.wl_record_core.specs.declared.record.Record.{Record}
use Rattle.wl_world.specs.declared.events.Event.{Event}
use Rattle.wl_world.specs.declared.events.Event.TheVariants.{Advance, Deliver, Join, Restart}
use Rattle.wl_world.specs.declared.events.Answer.{Answer}
use Rattle.wl_world.specs.declared.events.Answer.TheVariants.{Done, Idle}
use Rattle.wl_plan.specs.Line.{Line}
use Rattle.wl_group.specs.Party.{Party, put, initial_silences, initial_party, party_with}
use Rattle.wl_group.specs.Advanced.{can_advance, run_next, emission_of}

-- how many groups there are, and which one each node is in; a group may be without nodes
pub record Cast : Type 0 where
  pub groups : ℕ
  pub group_of : ℕ → ℕ

-- whether node i is in group h
abbrev pub is_of_group : Cast → ℕ → ℕ → Bool
is_of_group c h i = c.group_of i == h

-- the groups, and all records that were ever emitted, the oldest first
pub record Scene : Type 0 where
  pub parties : ℕ → Party
  pub emitted : List Record

-- at the start each group begins, and each node's first silence is emitted
abbrev pub start : Line → Cast → Scene
start l c = record { parties = λ h. initial_party l (is_of_group c h); emitted = initial_silences l (λ i. true) l.nodes }

-- whether an event may happen: its group, record or node is there, and the node may run its next quantum
abbrev pub possible : Line → Cast → Scene → Event → Bool
possible l c w (Advance h i) = nat_lt h c.groups && (nat_lt i l.nodes && can_advance l (is_of_group c h) (w.parties h) i)
possible l c w (Deliver h k) = nat_lt h c.groups && nat_lt k (length w.emitted)
possible l c w (Join h k) = nat_lt h c.groups && nat_lt k c.groups
possible l c w (Restart h) = nat_lt h c.groups

-- a list of the record, if there is one
abbrev pub at_most_one : Option Record → List Record
at_most_one None = []
at_most_one (Some r) = r ∷ []

-- after an event that may happen: a node runs, a group takes one emitted record, takes all that another took, or begins again
abbrev pub done : Line → Cast → Scene → Event → Scene
done l c w (Advance h i) = record { parties = put w.parties h (run_next l i (w.parties h)); emitted = w.emitted ++ emission_of l (w.parties h) i }
done l c w (Deliver h k) = record { parties = put w.parties h (party_with (at_most_one (slice_get w.emitted k)) (w.parties h)); emitted = w.emitted }
done l c w (Join h k) = record { parties = put w.parties h (party_with (w.parties k).taken (w.parties h)); emitted = w.emitted }
done l c w (Restart h) = record { parties = put w.parties h (initial_party l (is_of_group c h)); emitted = w.emitted }

-- an event that may not happen changes nothing
abbrev pub happens : Line → Cast → Scene → Event → Scene
happens l c w e = if possible l c w e then done l c w e else w

abbrev pub answer : Line → Cast → Scene → Event → Answer
answer l c w e = if possible l c w e then Done else Idle

-- a list of events, one after another
abbrev pub run : Line → Cast → List Event → Scene → Scene
run l c [] w = w
run l c (e ∷ es) w = run l c es (happens l c w e)

abbrev pub answers : Line → Cast → List Event → Scene → List Answer
answers l c [] w = []
answers l c (e ∷ es) w = answer l c w e ∷ answers l c es (happens l c w e)
