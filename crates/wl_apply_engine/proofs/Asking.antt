-- What a run did by what was asked for.
use Rattle.std.proofs.Common.{ℕ, inl, inr, Result, Ok, Err}
use Rattle.wl_apply_engine.specs.declared.fault.AppliedFault.{AppliedFault}
use Rattle.wl_apply_engine.specs.declared.fault.AppliedFault.TheVariants as fault
use Rattle.wl_apply_engine.specs.Applying.{RunsApplied}
use Rattle.wl_device.specs.Devices.{Answer}
use Rattle.wl_settings.specs.declared.fault.SettingsFault.{SettingsFault}
use Rattle.wl_settings.specs.declared.read.Wanted.{Wanted}

module _ {P T : Type 0} (gives : P → Answer → P → Type 0) (takes : T → Answer → T → Type 0) (tick : ℕ) (p p' : P) (t t' : T) (a b : Result Wanted SettingsFault → Type 0)
    (more : (r : Result Wanted SettingsFault) → a r → b r) where
  pub asked_as : (r : Result (Unit {0}) AppliedFault) → RunsApplied gives takes tick p p' t t' a r → RunsApplied gives takes tick p p' t t' b r
  asked_as (Ok u) (chosen, made, (wanted, asks, are), reads, back, writes) = (chosen, made, (wanted, more (Ok wanted) asks, are), reads, back, writes)
  asked_as (Err fault.Write) (f, (chosen, made, (wanted, asks, are), reads, back, writes)) =
      (f, (chosen, made, (wanted, more (Ok wanted) asks, are), reads, back, writes))
  asked_as (Err fault.Memory) h = h
  asked_as (Err (fault.Settings refusal)) (t_is, p_is, inl refused) = (t_is, p_is, inl (more (Err refusal) refused))
  asked_as (Err (fault.Settings refusal)) (t_is, p_is, inr (wanted, asks, none, lacks)) = (t_is, p_is, inr (wanted, more (Ok wanted) asks, none, lacks))
  asked_as (Err (fault.Plan refusal)) (t_is, chosen, (wanted, asks, are), reads) = (t_is, chosen, (wanted, more (Ok wanted) asks, are), reads)
