-- What is written of a plan and of what settings are asked for (this project's profile).
use Rattle.std.specs.Prelude.{◌≡◌, ◌⊎◌, ℕ, List, Option, Some, None, Result, Ok, Err}
use Rattle.toml.specs.Data.{Members}
use Rattle.wl_apply.specs.declared.chosen.Chosen.{Chosen}
use Rattle.wl_apply.specs.declared.fault.ApplyFault.{ApplyFault}
use Rattle.wl_apply.specs.declared.fault.ApplyFault.TheVariants as apply
use Rattle.wl_apply.specs.Applied.{applied, setup_refusal}
use Rattle.wl_apply_engine.specs.declared.fault.AppliedFault.{AppliedFault}
use Rattle.wl_apply_engine.specs.declared.fault.AppliedFault.TheVariants as fault
use Rattle.wl_device.specs.declared.bounded.Ended.{Ended}
use Rattle.wl_device.specs.declared.bounded.Ended.TheVariants as ended
use Rattle.wl_device.specs.declared.device.WriteFault.{WriteFault}
use Rattle.wl_device.specs.Bounded.{ReadsUpTo}
use Rattle.wl_device.specs.Devices.{Answer, Writes}
use Rattle.wl_print.specs.Written.{plan_words}
use Rattle.wl_settings.specs.declared.fault.SettingsFault.{SettingsFault}
use Rattle.wl_settings.specs.declared.fault.SettingsFault.TheVariants as settings
use Rattle.wl_settings.specs.declared.read.Wanted.{Wanted}
use Rattle.wl_settings.specs.Choices.{AreFirstChosen, LacksSetting}
use Rattle.wl_setup.specs.declared.fault.SetupFault.{SetupFault}
use Rattle.wl_setup.specs.declared.fault.SetupFault.TheVariants as setup
use Rattle.wl_setup.specs.declared.plan_text.PlanText.{PlanText}
use Rattle.wl_setup.specs.Limits.{most_bytes}
use Rattle.wl_setup.specs.Reading.{document_of, text_answer}

-- faults of settings, and of a plan, as those of a run
abbrev pub settings_refusal : SettingsFault → AppliedFault
settings_refusal settings.Memory = fault.Memory
settings_refusal refusal = fault.Settings refusal

abbrev pub plan_refusal : ApplyFault → AppliedFault
plan_refusal apply.Memory = fault.Memory
plan_refusal refusal = fault.Plan refusal

-- the plan of a text with these settings, or why there is none
abbrev pub applied_to : ℕ → List Chosen → Option Members → Result PlanText SetupFault → Result PlanText ApplyFault
applied_to tick chosen top (Err refusal) = Err (setup_refusal refusal)
applied_to tick chosen None (Ok read) = Err (apply.Setup setup.Toml)
applied_to tick chosen (Some top) (Ok read) = applied tick chosen top read

abbrev pub applied_text : ℕ → List Chosen → List ℕ → Result PlanText ApplyFault
applied_text tick chosen text = applied_to tick chosen (document_of text) (text_answer text)

-- and of what was read
abbrev pub applied_reading : ℕ → List Chosen → Ended → List ℕ → Result PlanText ApplyFault
applied_reading tick chosen ended.End text = applied_text tick chosen text
applied_reading tick chosen ended.Broken text = Err (apply.Setup setup.Read)
applied_reading tick chosen ended.Full text = Err (apply.Setup setup.Size)

-- a text is that of such a plan, and is read as it
abbrev pub IsPlanFor : Result PlanText ApplyFault → List ℕ → Type 0
IsPlanFor answer text = (made : PlanText) × (answer ≡ Ok made) × (text ≡ plan_words made) × (text_answer text ≡ Ok made)

module _ {P : Type 0} (gives : P → Answer → P → Type 0) (tick : ℕ) (p p' : P) where
  -- the plan's reader gave, in one reading, a text that has this answer
  abbrev pub ReadsApplied : List Chosen → Result PlanText ApplyFault → Type 0
  ReadsApplied chosen answer = (text : List ℕ) × (e : Ended) × ReadsUpTo gives p most_bytes text e p' × (applied_reading tick chosen e text ≡ answer)

  -- and this is its text
  abbrev pub WritesApplied : List Chosen → List ℕ → Type 0
  WritesApplied chosen text = (made : PlanText) × ReadsApplied chosen (Ok made) × (text ≡ plan_words made) × (text_answer text ≡ Ok made)

module _ {P T : Type 0} (gives : P → Answer → P → Type 0) (takes : T → Answer → T → Type 0) (tick : ℕ) (p p' : P) (t t' : T) where
  -- by what is asked for: its first settings are these, there is none of some controller, or it is refused
  module _ (asks : Result Wanted SettingsFault → Type 0) where
    abbrev pub Chooses : List Chosen → Type 0
    Chooses chosen = (wanted : Wanted) × asks (Ok wanted) × AreFirstChosen wanted.asked wanted.controllers chosen

    abbrev pub ChoosesNone : SettingsFault → Type 0
    ChoosesNone refusal = asks (Err refusal) ⊎ ((wanted : Wanted) × asks (Ok wanted) × (refusal ≡ settings.NoSetting) × LacksSetting wanted.asked wanted.controllers)

    -- the plan with the settings went out, as far as it went; what went out as a whole is read as that plan
    abbrev pub WroteApplied : Result (Unit {0}) WriteFault → Type 0
    WroteApplied r =
        (chosen : List Chosen) × (made : PlanText) × Chooses chosen × ReadsApplied gives tick p p' chosen (Ok made) × (text_answer (plan_words made) ≡ Ok made)
        × Writes takes t (plan_words made) r t'

    -- what a run did; nothing was written if the settings or the plan are refused, or memory is
    abbrev pub RunsApplied : Result (Unit {0}) AppliedFault → Type 0
    RunsApplied (Ok u) = WroteApplied (Ok tt)
    RunsApplied (Err fault.Write) = (f : WriteFault) × WroteApplied (Err f)
    RunsApplied (Err fault.Memory) = t' ≡ t
    RunsApplied (Err (fault.Settings refusal)) = (t' ≡ t) × (p' ≡ p) × ChoosesNone refusal
    RunsApplied (Err (fault.Plan refusal)) = (t' ≡ t) × (chosen : List Chosen) × Chooses chosen × ReadsApplied gives tick p p' chosen (Err refusal)
