-- Whether the condition for a sound bus holds, as a margin says first (this project's profile).
use Rattle.std.specs.Prelude.{ℕ, Bool, true, false, List, Option, Some, None}
use Rattle.wl_plan.specs.declared.plan.Plan.{Plan}
use Rattle.wl_setup.specs.declared.bus.Bus.{Bus}
use Rattle.wl_setup.specs.declared.bus.Deviation.{Deviation}
use Rattle.wl_bound.specs.Families.{Buses, family_of}
use Rattle.wl_bound.specs.Oscillators.{Pace}
use Rattle.wl_bound.specs.declared.verdict.Verdict.{Verdict}
use Rattle.wl_bound.specs.declared.verdict.Verdict.TheVariants.{ForAny, ForOne, DoesNotHold, NoBound}
use Rattle.wl_margin.specs.Margins.{family_asked, paces_of, verdict_asked}
use Rattle.wl_margin.specs.Paces.{first_stray}
use Rattle.wl_margin.specs.declared.reasons.Asked.{Asked}
use Rattle.wl_margin.specs.declared.reasons.Asked.TheVariants.{AllNodes, ThisPlan}

-- a verdict says that it holds: for any senders, or for one at a time
abbrev pub holds_by : Verdict → Bool
holds_by ForAny = true
holds_by ForOne = true
holds_by (DoesNotHold failure) = false
holds_by (NoBound cause) = false

-- first the clocks: it isn't said that it holds if one leaves its tolerance
abbrev pub holds_unless : Option ℕ → Bool → Bool
holds_unless (Some i) holds = false
holds_unless None holds = holds

abbrev pub holds_for : Asked → List Deviation → Plan → Buses → Bool
holds_for asked deviations plan f = holds_unless (first_stray deviations plan f) (holds_by (verdict_asked asked plan f))

abbrev pub holds_at : Asked → Bus → Option (List Pace) → Bool
holds_at asked bus None = false
holds_at asked bus (Some paces) = holds_for asked bus.deviations bus.plan (family_asked asked (family_of bus.plan paces))

-- of those who are asked about on a bus: the margin begins with 'holds'
abbrev pub is_held : Asked → Bus → Bool
is_held asked bus = holds_at asked bus (paces_of bus.deviations)

-- who is asked about: the plan's senders, or all nodes that don't only listen
abbrev pub asked_by : (all : Bool) → Asked
asked_by false = ThisPlan
asked_by true = AllNodes
