use Rattle.wl_buses.specs.OneFrame.Expected.{past_at}
use Rattle.wl_buses.specs.ThirdBit.ThirdStarts.{is_in_third, resting_from_second}
use Rattle.std.proofs.Common.{◌+◌}
use Rattle.wl_buses.proofs.third_bit.laws.a_frame_follows_from_the_third_bit.Goals as goal

pub returns : goal.returns
returns c = λ s o end chase which decides given are room is ends won can more may.
    c.stations_begin_or_join_the_next_frame.ensures.outset (resting_from_second s o end which decides) (is_in_third s o end which decides) (past_at s o (end + 12)) given are.line
    (c.stations_are_in_the_third_bit_or_rest_after_a_frame.ensures.rest s o end chase which decides are room is ends won can more)
    (c.stations_are_in_the_third_bit_or_rest_after_a_frame.ensures.free s o end chase which decides are room is ends won can more) may
