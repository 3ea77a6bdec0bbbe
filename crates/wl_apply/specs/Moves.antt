-- Times in quanta, by another quantum: the same time, in whole quanta, or none (this project's profile).
use Rattle.std.specs.Prelude.{ℕ, ◌*◌, nat_lt, if◌then◌else◌, Option, Some, None, option_and_then, Result, Ok, Err}
use Rattle.wl_units.specs.Ratios.{lowest, whole}
use Rattle.wl_setup.specs.declared.plan_text.FrameText.{FrameText}
use Rattle.wl_apply.specs.declared.chosen.QuantumLength.{QuantumLength}
use Rattle.wl_apply.specs.declared.fault.ApplyFault.{ApplyFault}
use Rattle.wl_apply.specs.declared.fault.ApplyFault.TheVariants.{Time}

-- how many new quanta an old one is, in lowest terms
abbrev pub ratio_of : (old new : QuantumLength) → Option (ℕ × ℕ)
ratio_of old new = lowest (old.num * new.den) (old.den * new.num)

-- a number of old quanta in new ones, if they are whole
abbrev pub moved_by : ℕ → ℕ × ℕ → Option ℕ
moved_by n ratio = whole (n * ratio.0) ratio.1

abbrev pub moved : Option (ℕ × ℕ) → ℕ → Option ℕ
moved ratio n = option_and_then (moved_by n) ratio

-- after how many quanta a frame comes again: one at least
abbrev pub from_one : ℕ → Option (Option ℕ)
from_one n = if nat_lt 0 n then Some (Some n) else None

abbrev pub moved_every : Option (ℕ × ℕ) → Option ℕ → Option (Option ℕ)
moved_every ratio None = Some None
moved_every ratio (Some n) = option_and_then from_one (moved ratio n)

-- a frame that becomes ready, and comes again, at these quanta, if both are whole
abbrev pub with_times : FrameText → Option ℕ → Option (Option ℕ) → Option FrameText
with_times f (Some ready) (Some every) = Some (record f { ready = ready; every = every })
with_times f (Some ready) None = None
with_times f None every = None

abbrev pub moved_frame : Option (ℕ × ℕ) → FrameText → Option FrameText
moved_frame ratio f = with_times f (moved ratio f.ready) (moved_every ratio f.every)

-- the numbered frame of node i, or that its times aren't whole
abbrev pub unless_late : ℕ → ℕ → Option FrameText → Result FrameText ApplyFault
unless_late i n None = Err (Time i n)
unless_late i n (Some f) = Ok f

abbrev pub frame_in_time : Option (ℕ × ℕ) → ℕ → ℕ × FrameText → Result FrameText ApplyFault
frame_in_time ratio i (n, f) = unless_late i n (moved_frame ratio f)
