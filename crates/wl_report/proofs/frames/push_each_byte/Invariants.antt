use Rattle.std.proofs.Common.{◌≡◌, ◌++◌, string_bytes, take}
use Rattle.std.specs.List.{flat_map}
use Rattle.wl_report.specs.Lines.{hexadecimal}
use Rattle.wl_report.proofs.frames.push_each_byte.Given as goal

-- the bytes so far come after the text
abbrev pub invariant-loop-byte : goal.invariant-loop-byte
invariant-loop-byte l = string_bytes l.text ≡ string_bytes l.initial.text ++ flat_map (hexadecimal 2) (take l.byte-index l.bytes)
