use Rattle.std.proofs.Common.{◌≡◌, ℕ, true, None}
use Rattle.std.proofs.lemmas.Bool.{and_parts}
use Rattle.wl_plan.specs.declared.plan.Plan.{Plan}
use Rattle.wl_plan.specs.Checked.{IsChecked}
use Rattle.wl_plan.specs.PlanLine.{line_of, setup_at}
use Rattle.wl_bound.specs.Conditions.{first_failure_of, plain}
use Rattle.wl_bound.specs.Families.{Buses}
use Rattle.wl_bound.specs.declared.condition.Senders.TheVariants.{Any}
use Rattle.wl_bound.specs.Rooms.{leaves_room}
use Rattle.wl_silence.specs.Shown.{ShowCleanSince}
use Rattle.wl_silence.specs.Silences.{IsSilentFor}
use Rattle.wl_silence.specs.SilentPlans.{NoneDisturbsSince, undisturbed_plan}
use Rattle.wl_proved.specs.PlansOfFamily.{IsPlanOfFamily}
use Rattle.wl_proved.proofs.Paced as paced
use Rattle.wl_proved.proofs.Said.{family_text, sound_for_any}
use Rattle.wl_proved.proofs.Texts.{any_tested}
use Rattle.wl_proved.proofs.silence.proved_means_clean_after_a_silence.Goals as goal

by_tests : goal.After-a_bus_shows_clean_after_a_silence → (f : Buses) (plan : Plan) (from until : ℕ) (first : ℕ → ℕ) → IsChecked plan → IsPlanOfFamily f (undisturbed_plan plan)
    → first_failure_of f plain Any ≡ None → leaves_room f ≡ true → NoneDisturbsSince plan from → IsSilentFor (line_of plan) (setup_at plan) from until first
    → ShowCleanSince (line_of plan) (setup_at plan) first
by_tests c f plan from until first checked of sound room passed silent =
    (let calm : Plan = undisturbed_plan plan in
    let steady = c.a_covered_plan_is_one_of_these.ensures.steady calm (paced.clocks f calm of) of.covered of.runs.checked (paced.rates f calm of) (paced.book f calm of) in
    c.a_bus_shows_clean_after_a_silence.ensures f plan (paced.clocks f calm of) from until first checked steady (paced.of_family f calm of)
    (c.a_covered_plan_has_first_frames.ensures.speaks calm of.covered) of.runs.frames of.senders (paced.for_any_senders f calm of sound) room passed silent)

pub returns-clause-tests : goal.returns-clause-tests
returns-clause-tests c = by_tests c

pub returns-clause-proved : goal.returns-clause-proved
returns-clause-proved c = λ asked tick bus f text of is said plan from until first checked of_family passed silent.
    (let x = any_tested asked tick bus.deviations bus.plan bus.names f text (family_text asked tick bus f text of is) said in
    by_tests c f plan from until first checked of_family (sound_for_any asked bus.plan f x.1) (and_parts _ _ x.2).1 passed silent)
