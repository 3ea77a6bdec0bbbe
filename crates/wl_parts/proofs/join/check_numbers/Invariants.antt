use Rattle.std.proofs.Common.{◌≡◌, ◌+◌, ◌-◌}
use Rattle.wl_parts.specs.Joined.{numbers_from}
use Rattle.wl_parts.proofs.join.check_numbers.Given as goal

abbrev pub invariant-loop-before : goal.invariant-loop-before
invariant-loop-before l = numbers_from (l.before + 1) (l.count - l.before) l.parts ≡ numbers_from 1 l.count l.parts
