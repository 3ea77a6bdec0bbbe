use Rattle.std.proofs.Common.{◌<◌, List, length}
use Rattle.std.proofs.Math.ListN.{set}
use Rattle.wl_serial.specs.declared.running_node.Running.{Running}
use Rattle.wl_serial.specs.LineAt.{AreLines, AreHeard, HasChanged}
use Rattle.wl_serial.proofs.Hearing.{AreTold}
use Rattle.wl_serial.proofs.line_at.tell.Given as goal

-- the lines so far are told
abbrev pub invariant-loop-m : goal.invariant-loop-m
invariant-loop-m l =
    AreLines l.plan l.lines
    × ((rs : List Running) (r : Running) → l.i < length rs → AreHeard l.plan rs l.fn.lines → HasChanged l.i l.tick rs r → AreTold l.plan rs (set rs l.i r) l.lines l.m)
