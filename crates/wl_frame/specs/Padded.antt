-- The bytes of a frame as they are held, which is this project's representation: eight, those after its own being zero.
use Rattle.std.specs.Prelude.{ℕ, ◌-◌, List, ◌++◌, length, replicate}

abbrev pub eight_bytes : List ℕ → List ℕ
eight_bytes bytes = bytes ++ replicate (8 - length bytes) 0
