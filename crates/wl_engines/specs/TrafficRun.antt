-- The traffic of a plan's simulation goes out, and its reason is answered (this project's profile).
use Rattle.std.specs.Prelude.{◌≡◌, ℕ, List, Result, Ok}
use Rattle.wl_device.specs.Devices.{Answer}
use Rattle.wl_setup.specs.declared.bus.Bus.{Bus}
use Rattle.wl_setup.specs.declared.plan_text.PlanText.{PlanText}
use Rattle.wl_setup.specs.Reading.{text_answer}
use Rattle.wl_traffic.specs.declared.reason.Reason.{Reason}
use Rattle.wl_traffic.specs.Reasons.{reason_of}
use Rattle.wl_traffic.specs.Traffic.{IsTrafficOfBus}
use Rattle.wl_views.specs.declared.tick.Tick.{Tick}
use Rattle.wl_engines.specs.Answered.{Answers}
use Rattle.wl_engines.specs.Explained.{bus_answer}
use Rattle.wl_engines.specs.declared.fault.RunFault.{RunFault}

-- the traffic of the one-thread simulation, at ticks that last so long, with bounds of waits if they are proved; and why the run didn't work
abbrev pub IsTrafficOutput : Tick → (text said : List ℕ) → Reason → Type 0
IsTrafficOutput tick text said reason =
    (plain : PlanText) × (bus : Bus) × (text_answer text ≡ Ok plain) × (bus_answer text ≡ Ok bus) × (reason ≡ reason_of bus.plan)
    × IsTrafficOfBus tick plain bus said

abbrev pub RunsTraffic : {S T : Type 0} → (S → Answer → S → Type 0) → (T → Answer → T → Type 0) → Tick → S → S → T → T → Result Reason RunFault → Type 0
RunsTraffic gives takes tick s s' t t' r = Answers (IsTrafficOutput tick) gives takes s s' t t' r
