use Rattle.std.proofs.Common.{◌<◌, subst, inl}
use Rattle.wl_wire.specs.Wire.{wire_after}
use Rattle.wl_wire.proofs.Callers.{count_after}
use Rattle.wl_heal.proofs.Healed.{sound_after}
use Rattle.wl_heal.proofs.laws.a_silence_heals.Goals as goal

pub returns : goal.returns
returns c = record {
  step = λ w silence events sound heads on long silent.
      c.machines_that_are_in_step_stay_so.ensures.step (wire_after w silence) events (sound_after w silence sound) (c.machines_that_are_in_step_stay_so.ensures.heads w silence heads)
      (inl (λ k lt. let here = subst (λ n. k < n) (count_after w silence) lt in c.a_silence_brings_all_between.ensures.wire w silence long silent k here (on k here)));
  errors = λ w silence events sound heads on long silent.
      c.machines_that_are_in_step_stay_so.ensures.errors (wire_after w silence) events (sound_after w silence sound) (c.machines_that_are_in_step_stay_so.ensures.heads w silence heads)
      (inl (λ k lt. let here = subst (λ n. k < n) (count_after w silence) lt in c.a_silence_brings_all_between.ensures.wire w silence long silent k here (on k here)));
}
