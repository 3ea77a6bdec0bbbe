use Rattle.wl_buses.proofs.OneFrame.Plans.{line_of_plan}
use Rattle.wl_plan.specs.PlanLine.{line_of, setup_at}
use Rattle.wl_buses.proofs.next_frames.silence.a_plan_rests_after_its_frames.Goals as goal

pub returns : goal.returns
returns c = λ plan s bus frames count stop of calm bus_of sound all some begin sent in_line.
    (let line = c.a_plan_is_on_a_line.ensures plan s of in
    c.a_line_rests_after_its_frames.ensures (line_of plan) (setup_at plan) s frames count stop (line_of_plan c.checked_is_sound.ensures plan s of calm)
    (record { line = line; ways = c.a_sound_bus_has_room.ensures.ways bus s line bus_of }) (c.a_sound_bus_has_room.ensures.room bus s line bus_of sound) all some begin sent in_line)
