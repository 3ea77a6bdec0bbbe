-- The numbers of the statuses: 0 to 3 are those of the program, and 5 is a null pointer, which the header's functions find (this project's profile).
use Rattle.std.specs.Prelude.{ℕ}
use Rattle.wl_c.specs.declared.status.Status.{Status}
use Rattle.wl_c.specs.declared.status.Status.TheVariants.{Done, Refused, Asked, Memory, Room, Shape}

abbrev pub status_code : Status → ℕ
status_code Done = 0
status_code Refused = 1
status_code Asked = 2
status_code Memory = 3
status_code Room = 4
status_code Shape = 6
