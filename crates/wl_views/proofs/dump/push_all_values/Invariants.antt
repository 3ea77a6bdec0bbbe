use Rattle.std.proofs.Common.{◌≡◌, ◌++◌, string_bytes, take}
use Rattle.std.specs.List.{flat_map, enumerate_from}
use Rattle.wl_views.specs.Vcd.{node_values}
use Rattle.wl_views.proofs.dump.push_all_values.Given as goal

-- the lines of the nodes so far come after the text
abbrev pub invariant-loop-i : goal.invariant-loop-i
invariant-loop-i l =
    string_bytes l.text ≡ string_bytes l.initial.text ++ flat_map node_values (enumerate_from 0 (take l.i l.now))
