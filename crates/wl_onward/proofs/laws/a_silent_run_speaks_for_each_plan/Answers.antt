use Rattle.std.proofs.Common.{◌+◌}
use Rattle.wl_onward.specs.Silences.{silence_ticks}
use Rattle.wl_onward.proofs.laws.a_silent_run_speaks_for_each_plan.Goals as goal

pub returns : goal.returns
returns c = λ f plan other clocks from checked can_run ran fit shows is steady of speaks contents sends verdict room passed.
    (let s = c.a_run_shows_its_silence.ensures plan clocks from ran checked fit shows in (
      s.1,
      c.plans_are_one_up_to_a_tick.ensures.silence plan other from (from + silence_ticks plan + 1) s.1 checked can_run is s.2,
      c.each_plan_is_clean_after_a_silence.ensures f plan other clocks from (from + silence_ticks plan + 1) s.1 checked can_run is steady of speaks contents sends verdict room passed s.2,
    ))
