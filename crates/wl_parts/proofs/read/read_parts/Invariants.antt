use Rattle.std.proofs.Common.{◌≡◌, ◌++◌, List, length}
use Rattle.std.specs.List.{AllByRecursion}
use Rattle.wl_parts.specs.declared.part.SweepPart.{SweepPart}
use Rattle.wl_parts.specs.Text.{PartFits, parts_text}
use Rattle.wl_parts.proofs.read.read_parts.Given as goal

-- of parts whose text this is those that are left have what is left
abbrev pub invariant-loop-rest : goal.invariant-loop-rest
invariant-loop-rest l =
    (ps : List SweepPart) → AllByRecursion PartFits ps → l.text ≡ parts_text ps
    → (left : List SweepPart) × (l.parts ++ left ≡ ps) × AllByRecursion PartFits left × (l.rest ≡ parts_text left)

abbrev pub decreases-loop-rest : goal.decreases-loop-rest
decreases-loop-rest l = length l.rest
