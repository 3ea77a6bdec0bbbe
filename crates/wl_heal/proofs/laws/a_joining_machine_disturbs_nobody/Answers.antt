use Rattle.std.proofs.Common.{refl}
use Rattle.wl_heal.proofs.Joined.{along, no_faults}
use Rattle.wl_heal.specs.Joining.{wire_with}
use Rattle.wl_heal.proofs.laws.a_joining_machine_disturbs_nobody.Goals as goal

pub returns : goal.returns
returns c = record {
  step = λ w present most changes sound heads those two step few.
      let laws = c.machines_that_are_in_step_stay_so.ensures in
      let h = along laws.step laws.errors laws.heads most w.frames sound w changes (record { same = refl; heads = heads; joined = record { present = present; those = those; two = two; step = step } }) few in
      (h.joined.present, h.joined.those, h.joined.step);
  errors = λ w present most changes sound heads those two step few.
      let laws = c.machines_that_are_in_step_stay_so.ensures in
      let h = along laws.step laws.errors laws.heads most w.frames sound w changes (record { same = refl; heads = heads; joined = record { present = present; those = those; two = two; step = step } }) few in
      no_faults laws.step laws.errors laws.heads most w.frames sound (wire_with w changes) h few;
}
