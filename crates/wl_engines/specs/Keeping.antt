-- A writer into memory (this project's profile).
use Rattle.std.specs.Prelude.{◌≡◌, ℕ, List, ◌++◌}
use Rattle.wl_device.specs.Devices.{Answer, moved, ended, again, failed}

-- bytes that went are after those before; a failed call leaves what is there, and no other answer comes
abbrev pub KeepsMore : List ℕ → Answer → List ℕ → Type 0
KeepsMore old (moved bytes) new = new ≡ old ++ bytes
KeepsMore old ended new = ⊥
KeepsMore old again new = ⊥
KeepsMore old failed new = new ≡ old
