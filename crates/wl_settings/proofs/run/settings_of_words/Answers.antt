use Rattle.std.proofs.Common.{inl, inr, rules}
use Rattle.wl_settings.proofs.FaultLemmas.{memory_or_not}
use Rattle.wl_settings.proofs.run.settings_of_words.Goals as goal

pub returns-in_err-wanted : goal.returns-in_err-wanted
returns-in_err-wanted g c =
    elim (memory_or_not c.in_err-wanted.field-0.0) [
      | inl memory ↦ search rules
      | inr other ↦ search rules
    ]

pub returns-in_err-text : goal.returns-in_err-text
returns-in_err-text g c =
    elim (memory_or_not c.in_err-text.field-0.0) [
      | inl memory ↦ search rules
      | inr other ↦ search rules
    ]
