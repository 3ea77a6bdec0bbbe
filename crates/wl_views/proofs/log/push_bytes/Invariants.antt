use Rattle.std.proofs.Common.{◌≡◌, ◌++◌, take}
use Rattle.std.specs.List.{flat_map}
use Rattle.wl_views.specs.Digits.{digits_of}
use Rattle.wl_views.proofs.log.push_bytes.Given as goal

-- the bytes so far stand after the text
abbrev pub invariant-loop-byte : goal.invariant-loop-byte
invariant-loop-byte l = l.text.items ≡ l.initial.text.items ++ flat_map (digits_of 16 2) (take l.byte-index l.bytes)
