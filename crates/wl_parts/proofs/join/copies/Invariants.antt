use Rattle.std.proofs.Common.{◌≡◌, ◌≤◌, eqb, take}
use Rattle.std.specs.List.{count_by}
use Rattle.wl_parts.specs.declared.part.SweepPart.{SweepPart}
use Rattle.wl_parts.proofs.join.copies.Given as goal

abbrev pub invariant-loop-part : goal.invariant-loop-part
invariant-loop-part l = (l.count ≤ l.part-index) × (l.count ≡ count_by (λ (p : SweepPart). eqb p.number l.number) (take l.part-index l.parts))
