-- Changes at one node that are tried, and the plans that they make (this project's profile).
use Rattle.std.specs.Prelude.{ℕ, zero, suc, ◌+◌, ◌*◌, ◌/◌, ◌%◌, ◌==◌, ◌||◌, nat_le, nat_lt, Bool, false, List, [], ◌∷◌, ◌++◌, length, map, take, drop, if◌then◌else◌, Option, Some, None, option_map, Result, Ok, Err, slice_index_or}
use Rattle.std.specs.Option.{is_some}
use Rattle.wl_limits.specs.declared.Limits.TheVariants.{Wide}
use Rattle.wl_limits.specs.Limits.{queue_limit}
use Rattle.wl_clock.specs.declared.ClockFault.{ClockFault}
use Rattle.wl_clock.specs.declared.Rate.{Rate}
use Rattle.wl_clock.specs.Timing.{Timing, tick_of, timing_within}
use Rattle.wl_segments.specs.Lengths.{Lengths, controller_segments_of}
use Rattle.wl_segments.specs.declared.SegmentsFault.{SegmentsFault}
use Rattle.wl_node.specs.declared.setup.NodeSetup.{NodeSetup}
use Rattle.wl_node.specs.declared.setup.Queued.{Queued}
use Rattle.wl_plan.specs.Checked.{fault_within}
use Rattle.wl_plan.specs.declared.plan.Plan.{Plan}
use Rattle.wl_plan.specs.PlanLine.{setup_at}
use Rattle.wl_setup.specs.declared.bus.Deviation.{Deviation}
use Rattle.wl_bound.specs.Families.{Buses, changed}
use Rattle.wl_bound.specs.declared.family.Change.TheVariants.{WiderJump, LaterSample, EarlierSample}
use Rattle.wl_judge.specs.declared.trial.Step.{Step}
use Rattle.wl_judge.specs.declared.trial.Step.TheVariants.{By, Finer, FinerAndLater}
use Rattle.wl_judge.specs.declared.trial.Trial.{Trial}
use Rattle.wl_judge.specs.declared.weakest.Weakest.{Weakest}
use Rattle.wl_judge.specs.Weakest.{coarsest, is_weak}

-- the greatest number of 64 bits
abbrev pub greatest_number : ℕ
greatest_number = 18446744073709551615

abbrev pub twice : ℕ → ℕ
twice n = if nat_le n 9223372036854775807 then n + n else greatest_number

-- a rate by which quanta are half as long
abbrev pub halved : Rate → Rate
halved r =
    if r.num % 2 == 0 then record { from = twice r.from; num = r.num / 2; den = r.den }
    else record { from = twice r.from; num = r.num; den = twice r.den }

-- segments by the rules of synchronisation of others, if they aren't refused
abbrev pub by_rules_of : Lengths → Result Lengths SegmentsFault → Option Lengths
by_rules_of l (Ok other) = Some (record other { sync = l.sync })
by_rules_of l (Err fault) = None

-- bits of twice the quanta, with the same sample point
abbrev pub finer_segments : Lengths → Option Lengths
finer_segments l = by_rules_of l (controller_segments_of (2 * (l.prop + l.ps1) + 1) (2 * l.ps2) (2 * l.sjw))

-- bits of twice the quanta, with a later sample point: PHASE_SEG2 and the jump width keep theirs
abbrev pub finer_later_segments : Lengths → Option Lengths
finer_later_segments l = by_rules_of l (controller_segments_of (2 * (l.prop + l.ps1) + l.ps2 + 1) l.ps2 l.sjw)

abbrev pub ready_later : Queued → Queued
ready_later w = record w { ready = twice w.ready }

abbrev pub by_clock : NodeSetup → Lengths → Result Timing ClockFault → Option NodeSetup
by_clock s l (Ok clock) =
    Some (record { clock = clock; segments = l; queue = map ready_later s.queue; order = s.order; until = option_map twice s.until })
by_clock s l (Err fault) = None

-- A node with quanta half as long, and twice of them in a bit. Its clock goes as the deviation says, without `ppm`. Nothing else moves.
abbrev pub finer_by : Deviation → NodeSetup → Option Lengths → Option NodeSetup
finer_by d s None = None
finer_by d s (Some l) = by_clock s l (timing_within Wide (tick_of s.clock 0) (map halved d.rates))

-- a node with other segments
abbrev pub by_segments : NodeSetup → Option Lengths → Option NodeSetup
by_segments s None = None
by_segments s (Some l) = Some (record s { segments = l })

-- a node after a change, unless that is refused
abbrev pub stepped : Step → Deviation → NodeSetup → Option NodeSetup
stepped (By change) d s = by_segments s (by_rules_of s.segments (changed change s.segments))
stepped Finer d s = finer_by d s (finer_segments s.segments)
stepped FinerAndLater d s = finer_by d s (finer_later_segments s.segments)

-- what its clock may do then
abbrev pub stepped_deviation : Step → Deviation → Deviation
stepped_deviation (By change) d = d
stepped_deviation Finer d = record d { rates = map halved d.rates }
stepped_deviation FinerAndLater d = record d { rates = map halved d.rates }

-- a list with another item at a place
abbrev pub with_at : {T : Type 0} → ℕ → T → List T → List T
with_at n x xs = take n xs ++ x ∷ drop (n + 1) xs

abbrev pub no_deviation : Deviation
no_deviation = record { rates = []; tolerance = 0 }

abbrev pub deviation_at : List Deviation → ℕ → Deviation
deviation_at deviations i = slice_index_or deviations i no_deviation

-- the plan after a change, unless it can't be run
abbrev pub checked_plan : Plan → Option Plan
checked_plan plan = if is_some (fault_within Wide (queue_limit Wide) plan) then None else Some plan

abbrev pub plan_with : Plan → ℕ → Option NodeSetup → Option Plan
plan_with plan i None = None
plan_with plan i (Some s) = checked_plan (record plan { nodes = with_at i s plan.nodes })

abbrev pub changed_plan : Trial → List Deviation → Plan → Option Plan
changed_plan t deviations plan = plan_with plan t.node (stepped t.step (deviation_at deviations t.node) (setup_at plan t.node))

abbrev pub tried_plan : Trial → List Deviation → Plan → Option Plan
tried_plan t deviations plan = if nat_lt t.node (length plan.nodes) then changed_plan t deviations plan else None

abbrev pub tried_deviations : Trial → List Deviation → List Deviation
tried_deviations t deviations = with_at t.node (stepped_deviation t.step (deviation_at deviations t.node)) deviations

-- The changes that are tried: at the nodes of the weakest pairs, and at the first of those with the longest quanta.
abbrev pub trials_at : ℕ → List Trial
trials_at i =
    record { step = By WiderJump; node = i } ∷ record { step = By LaterSample; node = i } ∷ record { step = By EarlierSample; node = i }
    ∷ record { step = Finer; node = i } ∷ record { step = FinerAndLater; node = i } ∷ []

abbrev pub is_that_node : Option ℕ → ℕ → Bool
is_that_node None i = false
is_that_node (Some k) i = k == i

abbrev pub is_tried : Weakest → Option ℕ → ℕ → Bool
is_tried weak coarse i = is_weak i weak || is_that_node coarse i

abbrev pub trials_below : Weakest → Option ℕ → ℕ → List Trial
trials_below weak coarse zero = []
trials_below weak coarse (suc i) = if is_tried weak coarse i then trials_below weak coarse i ++ trials_at i else trials_below weak coarse i

abbrev pub trials_of : Buses → Weakest → List Trial
trials_of f weak = trials_below weak (coarsest f) (length f.members)
