-- A reader over a text in memory (this project's profile).
use Rattle.std.specs.Prelude.{◌≡◌, ◌<◌, ℕ, List, [], ◌++◌, length}
use Rattle.wl_device.specs.Devices.{Answer, moved, ended, again, failed}

-- some more of the text comes, or its end
abbrev pub GivesRest : List ℕ → Answer → List ℕ → Type 0
GivesRest old (moved bytes) new = (old ≡ bytes ++ new) × (0 < length bytes)
GivesRest old ended new = (old ≡ []) × (new ≡ [])
GivesRest old again new = ⊥
GivesRest old failed new = ⊥
