-- The family of a plan and its text: each node sends that has a message, before the plan's end or later. This project's.
use Rattle.std.specs.Prelude.{ℕ, suc, ◌==◌, is_some, Bool, List, [], ◌∷◌, length, Option, Some, None}
use Rattle.wl_level.specs.Places.{first_place}
use Rattle.wl_node.specs.declared.setup.NodeSetup.{NodeSetup}
use Rattle.wl_node.specs.declared.setup.Queued.{Queued}
use Rattle.wl_plan.specs.declared.plan.Plan.{Plan}
use Rattle.wl_setup.specs.declared.plan_text.PlanText.{PlanText}
use Rattle.wl_bound.specs.Families.{Buses, members_of}
use Rattle.wl_bound.specs.Oscillators.{Pace}
use Rattle.wl_bound.specs.declared.family.Member.{Member}
use Rattle.wl_respond.specs.declared.message.MessageWait.{MessageWait}
use Rattle.wl_respond.specs.Tables.{messages_of}
use Rattle.wl_respond.specs.Tests.{message_at}

-- message e is of node i; the first such; and whether there is one
abbrev pub is_of_node : List MessageWait → (i e : ℕ) → Bool
is_of_node messages i e = (message_at messages e).node == i

abbrev pub first_of_node : List MessageWait → ℕ → Option ℕ
first_of_node messages i = first_place (is_of_node messages i) (length messages)

abbrev pub is_sender : List MessageWait → ℕ → Bool
is_sender messages i = is_some (first_of_node messages i)

-- the same nodes, from node i on, by whether each sends
abbrev pub sending_by : (ℕ → Bool) → ℕ → List Member → List Member
sending_by senders i [] = []
sending_by senders i (member ∷ later) = record member { sends = senders i } ∷ sending_by senders (suc i) later

abbrev pub family_with : Plan → List Pace → List MessageWait → Buses
family_with plan paces messages = record { members = sending_by (is_sender messages) 0 (members_of plan.nodes paces); cable = plan.topology }

abbrev pub family_with_text : Plan → PlanText → List Pace → Buses
family_with_text plan text paces = family_with plan paces (messages_of plan text)

-- So it is the family of a plan on which one frame waits at each of these nodes.
abbrev pub entry_by : List MessageWait → Option ℕ → List Queued
entry_by messages None = []
entry_by messages (Some e) = record { frame = (message_at messages e).frame; ready = 0 } ∷ []

abbrev pub one_entry : List MessageWait → ℕ → List Queued
one_entry messages i = entry_by messages (first_of_node messages i)

abbrev pub with_one_entry : List MessageWait → ℕ → NodeSetup → NodeSetup
with_one_entry messages i node = record node { queue = one_entry messages i }

abbrev pub senders : List MessageWait → ℕ → List NodeSetup → List NodeSetup
senders messages i [] = []
senders messages i (node ∷ later) = with_one_entry messages i node ∷ senders messages (suc i) later

abbrev pub sending_plan : Plan → List MessageWait → Plan
sending_plan plan messages = record { nodes = senders messages 0 plan.nodes; topology = plan.topology; disturbances = []; end = 0 }
