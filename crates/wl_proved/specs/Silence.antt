-- What the line of `traffic` promises of a bus after the silence of a run. This project's.
use Rattle.std.specs.Prelude.{◌≡◌, ℕ, List, ◌++◌, codes, None}
use Rattle.wl_plan.specs.declared.plan.Plan.{Plan}
use Rattle.wl_plan.specs.PlanLine.{line_of, setup_at}
use Rattle.wl_bound.specs.Families.{Buses}
use Rattle.wl_bound.specs.Verdicts.{outside_of}
use Rattle.wl_buses.specs.FamilyPlans.FamilyStations.{AreContents, SendAsFamily}
use Rattle.wl_onward.specs.Plans.{IsPlanUpTo}
use Rattle.wl_silence.specs.Shown.{ShowCleanSince}
use Rattle.wl_silence.specs.Silences.{IsSilentFor}
use Rattle.wl_silence.specs.SilentPlans.{NoneDisturbsSince}
use Rattle.wl_traffic.specs.Silence.{clean_line, silence_end}
use Rattle.wl_proved.specs.PlansOfFamily.{IsRunnable}

-- the line says 'proved', by its first letters
abbrev pub SaysCleanFrom : List ℕ → Type 0
SaysCleanFrom line = (rest : List ℕ) × (line ≡ codes "clean from tick " ++ rest)

-- Another plan is the same up to the silence's end, with any frames and any end afterwards, and no disturbance comes any more. Only nodes that send in the family have frames, and no two have frames of one field.
pub record GoesOnFrom (f : Buses) (plan other : Plan) (from : ℕ) : Type 0 where
  pub up_to : IsPlanUpTo plan other (silence_end plan from)
  pub runs : IsRunnable other
  pub senders : SendAsFamily f other
  pub inside : outside_of other ≡ None
  pub passed : NoneDisturbsSince other from

-- There is that silence, and from it on no node finds an error, no counter rises, and first frames of one list pass each node.
abbrev pub IsCleanAfter : Plan → (from until : ℕ) → Type 0
IsCleanAfter plan from until =
    (first : ℕ → ℕ) × IsSilentFor (line_of plan) (setup_at plan) from until first × ShowCleanSince (line_of plan) (setup_at plan) first

-- The line names the tick from which on it is so: on this plan, if its frames are some, and on each plan that goes on from there.
pub record NamesCleanTick (f : Buses) (plan : Plan) (line : List ℕ) : Type 0 where
  pub from : ℕ
  pub said : line ≡ clean_line from (silence_end plan from)
  pub own : AreContents plan → IsCleanAfter plan from (silence_end plan from)
  pub each : (other : Plan) → GoesOnFrom f plan other from → IsCleanAfter other from (silence_end plan from)
