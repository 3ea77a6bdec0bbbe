use Rattle.wl_onward.proofs.laws.each_plan_is_clean_after_a_silence.Goals as goal

pub returns : goal.returns
returns c = λ f plan other clocks from until first checked can_run is steady of speaks contents sends verdict room passed silent.
    c.a_bus_shows_clean_after_a_silence.ensures f other clocks from until first can_run steady of speaks contents sends verdict room passed
    (c.plans_are_one_up_to_a_tick.ensures.silence plan other from until first checked can_run is silent)
