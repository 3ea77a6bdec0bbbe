use Rattle.std.proofs.Common.{◌≡◌, ◌≤◌, drop, fold}
use Rattle.wl_lines.specs.Ranks.{digits_after}
use Rattle.wl_lines.proofs.rank.magnitude.Given as goal

-- the digits so far, and then those that are left
abbrev pub invariant-loop-byte : goal.invariant-loop-byte
invariant-loop-byte l = record {
  value : fold digits_after l.n (drop l.byte-index l.value) ≡ fold digits_after 0 l.value;
  bound : l.n ≤ 1000000000000000;
}
