-- Until when nodes were at error and overload flags, and how long that was after the last disturbance (this project's profile).
use Rattle.std.specs.Prelude.{◌≡◌, ℕ, ◌-◌, ◌&&◌, nat_lt, max, not, Bool, true, false, List, [], ◌∷◌, codes, fold, Option, Some, None, if◌then◌else◌}
use Rattle.std.specs.Fmt.{decimal}
use Rattle.wl_level.specs.declared.Level.{Level}
use Rattle.wl_machine.specs.declared.doing.Doing.{Doing}
use Rattle.wl_machine.specs.declared.doing.Doing.TheVariants as doings
use Rattle.wl_margin.specs.Pieces.{joined}
use Rattle.wl_node.specs.declared.setup.NodeSetup.{NodeSetup}
use Rattle.wl_plan.specs.declared.plan.Disturbance.{Disturbance}
use Rattle.wl_plan.specs.declared.plan.Plan.{Plan}
use Rattle.wl_views.specs.declared.tick.Tick.{Tick}
use Rattle.wl_views.specs.Ticks.{microseconds}
use Rattle.wl_traffic.specs.declared.healing.Trouble.{Trouble}
use Rattle.wl_traffic.specs.declared.queues.NodeQueue.{NodeQueue}
use Rattle.wl_traffic.specs.declared.reason.Reason.{Reason}
use Rattle.wl_traffic.specs.declared.reason.Reason.TheVariants as reasons
use Rattle.wl_traffic.specs.declared.spans.Span.{Span}
use Rattle.wl_traffic.specs.States.{spans_of}

-- an error or overload flag, or its delimiter (Bosch CAN 2.0 part B, sections 3.2.3 and 3.2.4)
abbrev pub is_trouble_doing : Doing → Bool
is_trouble_doing doings.ActiveFlag = true
is_trouble_doing doings.PassiveFlag = true
is_trouble_doing doings.OverloadFlag = true
is_trouble_doing doings.Waiting = true
is_trouble_doing doings.Delimiting = true
is_trouble_doing doing = false

-- up to which tick a span has it; 0 if it hasn't
abbrev pub trouble_of : Span → ℕ
trouble_of s = if is_trouble_doing s.doing then s.until else 0

-- up to which tick some span does
abbrev pub trouble_until : List Span → ℕ
trouble_until spans = fold (λ last s. max last (trouble_of s)) 0 spans

-- what the node has been doing since its last sample, if it goes on up to an end
abbrev pub trouble_since : (end : ℕ) → Option (Doing × ℕ) → ℕ
trouble_since end None = 0
trouble_since end (Some (doing, from)) = trouble_of (record { doing = doing; from = from; until = max from end })

abbrev pub trouble_by : (end : ℕ) → Trouble → ℕ
trouble_by end t = max t.until (trouble_since end t.doing)

-- that is of a node of this setup that had these samples, whatever the end is
abbrev pub HasTrouble : NodeSetup → List (ℕ × Level) → Trouble → Type 0
HasTrouble setup samples t = (end : ℕ) → trouble_by end t ≡ trouble_until (spans_of setup end samples)

-- the end of the last disturbance; 0 if there is none
abbrev pub disturbed_until : List Disturbance → ℕ
disturbed_until disturbances = fold (λ last d. max last d.to) 0 disturbances

-- from which tick on no node is at a flag or its delimiter, and nothing disturbs
abbrev pub clean_from : (disturbed : ℕ) → List NodeQueue → ℕ
clean_from disturbed queues = fold (λ last q. max last q.trouble) disturbed queues

abbrev pub is_off_reason : Reason → Bool
is_off_reason reasons.BusOff = true
is_off_reason reason = false

abbrev pub healed_words : Tick → (disturbed clean : ℕ) → List ℕ
healed_words tick disturbed clean =
    joined (codes "healed " ∷ decimal (microseconds tick (clean - disturbed)) ∷ codes " us after the last disturbance, clean from tick " ∷ decimal clean
    ∷ codes " on\n" ∷ [])

-- The line is there if something disturbs, no node was bus off, and all is over before the end.
abbrev pub healed_by : Tick → (end disturbed clean : ℕ) → (off : Bool) → List ℕ
healed_by tick end disturbed clean off =
    if nat_lt 0 disturbed && (nat_lt clean end && not off) then healed_words tick disturbed clean else []

abbrev pub healed_line : Tick → Plan → List NodeQueue → Reason → List ℕ
healed_line tick plan queues reason =
    let disturbed : ℕ = disturbed_until plan.disturbances in
    healed_by tick plan.end disturbed (clean_from disturbed queues) (is_off_reason reason)
