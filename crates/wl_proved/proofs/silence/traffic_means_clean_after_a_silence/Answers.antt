use Rattle.wl_views.specs.Ticks.{tick_picoseconds}
use Rattle.wl_proved.proofs.Mended.{names_clean_tick}
use Rattle.wl_proved.proofs.silence.traffic_means_clean_after_a_silence.Goals as goal

pub returns-clause-line : goal.returns-clause-line
returns-clause-line c = λ tick bus f line is says family checked count.
    names_clean_tick c.place_laws.ensures c.clocks_keep_pace.ensures c.a_run_shows_its_silence.ensures c.a_silent_run_speaks_for_each_plan.ensures tick bus line f is says
    family checked count

pub returns-clause-text : goal.returns-clause-text
returns-clause-text c = λ tick plain bus f text is says family checked count.
    names_clean_tick c.place_laws.ensures c.clocks_keep_pace.ensures c.a_run_shows_its_silence.ensures c.a_silent_run_speaks_for_each_plan.ensures (tick_picoseconds tick) bus is.1 f
    is.3 says family checked count
