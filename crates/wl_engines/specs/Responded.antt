-- How long the messages of a plan may wait goes out, and whether all deadlines are met is answered (this project's profile).
use Rattle.std.specs.Prelude.{◌≡◌, ℕ, Bool, List, Option, Result, Ok}
use Rattle.wl_device.specs.Devices.{Answer}
use Rattle.wl_setup.specs.declared.bus.Bus.{Bus}
use Rattle.wl_setup.specs.declared.plan_text.PlanText.{PlanText}
use Rattle.wl_setup.specs.Reading.{text_answer}
use Rattle.wl_lines.specs.declared.formats.Format.{Format}
use Rattle.wl_lines.specs.Formats.{written_as}
use Rattle.wl_lines.specs.Shapes.{TextLine}
use Rattle.wl_respond.specs.Forms.{respond_sheet}
use Rattle.wl_respond.specs.Texts.{AreLinesOfBus}
use Rattle.wl_views.specs.declared.tick.Tick.{Tick}
use Rattle.wl_views.specs.Ticks.{tick_picoseconds}
use Rattle.wl_engines.specs.Answered.{Answers}
use Rattle.wl_engines.specs.Explained.{bus_answer}
use Rattle.wl_engines.specs.declared.fault.RunFault.{RunFault}

-- what is said of a whole text, and whether all deadlines are met: of any data, or of the plan's own
abbrev pub IsResponse : Tick → (any : Bool) → Option Format → (text said : List ℕ) → (met : Bool) → Type 0
IsResponse tick any format text said met =
    (plain : PlanText) × (bus : Bus) × (lines : List TextLine) × (text_answer text ≡ Ok plain) × (bus_answer text ≡ Ok bus)
    × AreLinesOfBus (tick_picoseconds tick) any plain bus lines met × (said ≡ written_as format respond_sheet lines)

abbrev pub Responds : {S T : Type 0} → (S → Answer → S → Type 0) → (T → Answer → T → Type 0) → Tick → Bool → Option Format → S → S → T → T → Result Bool RunFault → Type 0
Responds gives takes tick any format s s' t t' r = Answers (IsResponse tick any format) gives takes s s' t t' r
