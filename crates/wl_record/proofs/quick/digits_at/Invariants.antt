use Rattle.std.proofs.Common.{◌≡◌, ◌≤◌, ◌+◌, ◌-◌, take, drop}
use Rattle.std.specs.Str.Parse.{AllDigits, digits_value}
use Rattle.wl_record.proofs.quick.digits_at.Given as goal

abbrev pub invariant-loop-at : goal.invariant-loop-at
invariant-loop-at l = record {
  begun : l.from ≤ l.at;
  within : l.at ≤ l.from + l.most;
  digits : AllDigits 10 (take (l.at - l.from) (drop l.from l.bytes));
  value_is : l.value ≡ digits_value 10 (take (l.at - l.from) (drop l.from l.bytes));
}

abbrev pub decreases-loop-at : goal.decreases-loop-at
decreases-loop-at l = l.from + l.most - l.at
