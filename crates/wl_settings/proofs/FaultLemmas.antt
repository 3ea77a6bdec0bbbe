-- A fault is out of memory, or it is not.
use Rattle.std.proofs.Common.{◌≡◌, ◌≢◌, ◌⊎◌, inl, inr, refl}
use Rattle.wl_settings.specs.declared.fault.SettingsFault.{SettingsFault}
use Rattle.wl_settings.specs.declared.fault.SettingsFault.TheVariants.{Toml, Missing, Kind, Unknown, NoController, NoSetting, Size, Read, Write, Memory}

pub memory_or_not : (f : SettingsFault) → (f ≡ Memory) ⊎ (f ≢ Memory)
memory_or_not Memory = inl refl
memory_or_not Toml = inr (λ e. cc)
memory_or_not (Missing key) = inr (λ e. cc)
memory_or_not (Kind key) = inr (λ e. cc)
memory_or_not (Unknown key) = inr (λ e. cc)
memory_or_not NoController = inr (λ e. cc)
memory_or_not NoSetting = inr (λ e. cc)
memory_or_not Size = inr (λ e. cc)
memory_or_not Read = inr (λ e. cc)
memory_or_not Write = inr (λ e. cc)
