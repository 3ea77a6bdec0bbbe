use Rattle.std.proofs.Common.{inl, inr, rules}
use Rattle.wl_settings.proofs.FaultLemmas.{memory_or_not}
use Rattle.wl_settings.proofs.run.settings_run.Goals as goal

pub returns-in_err-wanted : goal.returns-in_err-wanted
returns-in_err-wanted g c =
    elim (memory_or_not c.in_err-wanted.field-0.0) [
      | inl memory ↦ search rules
      | inr other ↦ search rules
    ]

pub returns-in_err-said : goal.returns-in_err-said
returns-in_err-said g c =
    elim (memory_or_not c.in_err-said.field-0.0) [
      | inl memory ↦ search rules
      | inr other ↦ search rules
    ]
