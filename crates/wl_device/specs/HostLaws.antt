-- What follows from a run of a device of the system, where the device's bytes are known (this project's profile).
use Rattle.std.specs.Prelude.{◌≡◌, ℕ, List, ◌++◌, Option, Some}
use Rattle.wl_device.specs.Devices.{Answer, ended, Run, moved_bytes, EndsWith, ReadCall, WriteCall}

pub record HostLaws : Type 0 where
  -- up to its end a reader gives all the bytes that it had
  pub all_came : (bytes : List ℕ) (left : Option (List ℕ)) (answers : List Answer)
      → Run ReadCall (Some bytes) answers left → EndsWith answers ended → moved_bytes answers ≡ bytes
  -- a writer holds what went, after what it held
  pub all_held : (before : List ℕ) (held : Option (List ℕ)) (answers : List Answer)
      → Run WriteCall (Some before) answers held → held ≡ Some (before ++ moved_bytes answers)
