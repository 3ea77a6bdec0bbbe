use Rattle.std.proofs.Common.{◌≡◌, drop}
use Rattle.wl_parts.specs.Joined.{findings_by}
use Rattle.wl_parts.proofs.join.found_by.Given as goal

abbrev pub invariant-loop-part : goal.invariant-loop-part
invariant-loop-part l = findings_by l.number (drop l.part-index l.parts) ≡ findings_by l.number l.parts
