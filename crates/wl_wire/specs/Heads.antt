-- The frames that machines are sending.
use Rattle.std.specs.Prelude.{◌≡◌, ℕ, Some}
use Rattle.wl_frame.specs.Grammar.{Content}
use Rattle.wl_machine.specs.Judged.{head_of}
use Rattle.wl_wire.specs.Wire.{Wire, stretch_at}
use Rattle.wl_wire.specs.InStep.{Has}

-- each frame that a machine is sending, or is to begin, is one of its own; this project's profile
abbrev pub OwnHeads : Wire → Type 0
OwnHeads w = (k : ℕ) (c : Content) → head_of (stretch_at w k).sort ≡ Some c → Has w.frames k c
