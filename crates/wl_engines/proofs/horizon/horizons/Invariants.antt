use Rattle.std.proofs.Common.{◌≡◌, string_bytes}
use Rattle.wl_engines.specs.Horizon.{lines_below}
use Rattle.wl_engines.proofs.horizon.horizons.Given as goal

-- the lines of the nodes so far are in the text
abbrev pub invariant-loop-node : goal.invariant-loop-node
invariant-loop-node l = string_bytes l.text ≡ lines_below l.rows l.node
