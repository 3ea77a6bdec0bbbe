-- The times of a bus, wherever within its tolerance each clock lies. This project's.
use Rattle.wl_bound.specs.Families.{Bus}
use Rattle.wl_bound.specs.BusTimes.{greatest_bit, greatest_sample, greatest_shift}
use Rattle.wl_buses.specs.FrameTimes.Times.{Times}
pub use Rattle.wl_bound.specs.BusTimes.{following_time, greatest_bit, greatest_lag, greatest_sample, greatest_shift, lag_time, way_time}

-- the times of a bus; and those with a bit for the shift, which is never longer if there is room for acknowledgements
abbrev pub bus_times : Bus → Times
bus_times bus = record { unit = bus.tick; bit = greatest_bit bus; sample = greatest_sample bus; shift = greatest_shift bus }

abbrev pub bit_times : Bus → Times
bit_times bus = record { unit = bus.tick; bit = greatest_bit bus; sample = greatest_sample bus; shift = greatest_bit bus }
