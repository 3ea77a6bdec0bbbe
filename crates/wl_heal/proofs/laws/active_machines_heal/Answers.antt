use Rattle.std.proofs.Common.{subst, sym}
use Rattle.wl_wire.specs.InStep.{AreSoundFrames}
use Rattle.wl_heal.specs.Healing.{bits_after}
use Rattle.wl_heal.proofs.Heal.{heal, heads_after, count_stays, frames_stay}
use Rattle.wl_heal.proofs.laws.active_machines_heal.Goals as goal

pub returns : goal.returns
returns c = record {
  step = heal;
  errors = λ w handed sound heads active part.
      let laws = c.machines_that_are_in_step_stay_so.ensures in
      let h = heal w handed active part in
      let there = bits_after w handed h.0 in
      let sound_there = subst (λ n. AreSoundFrames n there.frames) (sym (count_stays h.0 w handed)) (subst (AreSoundFrames w.count) (sym (frames_stay h.0 w handed)) sound) in
      let heads_there = heads_after laws.heads h.0 w handed heads in
      (h.0, h.1, λ events. (laws.step there events sound_there heads_there h.2, laws.errors there events sound_there heads_there h.2));
}
