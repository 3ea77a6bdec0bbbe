-- What the verdict of a report says (this project's profile).
use Rattle.std.specs.Prelude.{◌≡◌, ◌↔◌, ◌∷◌, [], List, codes}
use Rattle.std.specs.List.{All}
use Rattle.wl_serial.specs.declared.outcome.NodeTotals.{NodeTotals}
use Rattle.wl_report.specs.Lines.{line}
use Rattle.wl_report.specs.Report.{verdict_line}

-- it is clean exactly where no node has an error and none has a frame left to send
abbrev pub CleanIsClean : Type 0
CleanIsClean =
    (nodes : List NodeTotals)
    → (verdict_line nodes ≡ line (codes "verdict") (codes "clean" ∷ [])) ↔ All (λ n. (n.errors ≡ 0) × (n.unsent ≡ 0)) nodes
