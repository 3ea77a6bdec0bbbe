use Rattle.std.proofs.Common.{◌≡◌, ◌++◌, take}
use Rattle.wl_lines.specs.Json.{escaped}
use Rattle.wl_lines.proofs.json.push_escaped.Given as goal

-- the bytes so far come after the text
abbrev pub invariant-loop-byte : goal.invariant-loop-byte
invariant-loop-byte l = l.text.items ≡ l.initial.text.items ++ escaped (take l.byte-index l.bytes)
