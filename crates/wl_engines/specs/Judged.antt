-- Whether the bus of a plan works goes out, and is answered (this project's profile).
use Rattle.std.specs.Prelude.{◌≡◌, ℕ, Bool, List, Result, Ok}
use Rattle.wl_device.specs.Devices.{Answer}
use Rattle.wl_setup.specs.declared.bus.Bus.{Bus}
use Rattle.wl_setup.specs.declared.plan_text.PlanText.{PlanText}
use Rattle.wl_setup.specs.Reading.{text_answer}
use Rattle.wl_views.specs.declared.tick.Tick.{Tick}
use Rattle.wl_views.specs.Ticks.{tick_picoseconds}
use Rattle.wl_judge.specs.Answers.{bus_judgement}
use Rattle.wl_judge.specs.Plans.{IsPlanAnswer}
use Rattle.wl_judge.specs.declared.judgement.Judgement.{Judgement}
use Rattle.wl_judge.specs.declared.judgement.RunState.{RunState}
use Rattle.wl_judge.specs.declared.judgement.RunState.TheVariants as state
use Rattle.wl_plan.specs.declared.plan.Plan.{Plan}
use Rattle.wl_traffic.specs.declared.reason.Reason.{Reason}
use Rattle.wl_traffic.specs.declared.reason.Reason.TheVariants.{Works, Errors, Overloaded, Starved, EndsTooEarly, BusOff, Deaf, Missed, TakenTwice}
use Rattle.wl_traffic.specs.Reasons.{reason_of, reason_word}
use Rattle.wl_engines.specs.Explained.{bus_answer}
use Rattle.wl_engines.specs.Answered.{Answers, AnswersText}
use Rattle.wl_engines.specs.declared.fault.RunFault.{RunFault}

-- what a run says that doesn't work for this reason, or works
abbrev pub run_state : Reason → RunState
run_state Works = state.Works
run_state Errors = state.Fails
run_state Overloaded = state.Fails
run_state Starved = state.Fails
run_state EndsTooEarly = state.EndsTooEarly
run_state BusOff = state.Fails
run_state Deaf = state.Fails
run_state Missed = state.Fails
run_state TakenTwice = state.Fails

abbrev pub plan_state : Plan → RunState
plan_state plan = run_state (reason_of plan)

-- the lines on the bus of a text, at ticks that last so long, by the one-thread simulation of its plan
abbrev pub IsJudgeOutput : Tick → (explain : Bool) → PlanText → Bus → List ℕ → Type 0
IsJudgeOutput tick explain plain bus said =
    IsPlanAnswer (tick_picoseconds tick) explain (plan_state bus.plan) (reason_word (reason_of bus.plan)) plain bus said

abbrev pub plan_judgement : Bus → Judgement
plan_judgement bus = bus_judgement bus (plan_state bus.plan)

-- what is said of a whole text, and whether the bus works
abbrev pub IsJudged : Tick → (explain : Bool) → (text said : List ℕ) → Judgement → Type 0
IsJudged tick explain text said judgement =
    (plain : PlanText) × (bus : Bus) × (text_answer text ≡ Ok plain) × (bus_answer text ≡ Ok bus) × (judgement ≡ plan_judgement bus)
    × IsJudgeOutput tick explain plain bus said

-- what was done with a whole text
abbrev pub JudgesText : {T : Type 0} → (T → Answer → T → Type 0) → Tick → Bool → List ℕ → T → T → Result Judgement RunFault → Type 0
JudgesText takes tick explain text t t' r = AnswersText (IsJudged tick explain) takes text t t' r

-- what was done with what the reader gave
module _ {S T : Type 0} (gives : S → Answer → S → Type 0) (takes : T → Answer → T → Type 0) (tick : Tick) (explain : Bool) (s s' : S) (t t' : T) where
  abbrev pub RunsJudge : Result Judgement RunFault → Type 0
  RunsJudge r = Answers (IsJudged tick explain) gives takes s s' t t' r
