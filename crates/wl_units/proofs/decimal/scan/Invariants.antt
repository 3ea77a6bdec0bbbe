use Rattle.std.proofs.Common.{◌≡◌, drop}
use Rattle.wl_units.specs.Decimals.{IsDecimal, no_digits, scan}
use Rattle.wl_units.proofs.decimal.scan.Given as goal

-- what is left is scanned on
abbrev pub invariant-loop-n : goal.invariant-loop-n
invariant-loop-n l = (scan l.number (drop l.n l.text) ≡ scan no_digits l.text) × IsDecimal l.number
