use Rattle.std.proofs.Common.{◌≡◌, ◌++◌, string_bytes, take}
use Rattle.wl_traffic.specs.Unequal.{unequal_lines}
use Rattle.wl_traffic.proofs.unequal.push_unequal.Given as goal

-- the lines so far come after the text
abbrev pub invariant-loop-unequal : goal.invariant-loop-unequal
invariant-loop-unequal l = string_bytes l.text ≡ string_bytes l.initial.text ++ unequal_lines l.names (take l.unequal-index l.all)
