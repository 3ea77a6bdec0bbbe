use Rattle.std.proofs.Common.{◌≡◌, ◌≤◌, ◌-◌, length, take}
use Rattle.std.specs.Str.Parse.{AllDigits, digits_value}
use Rattle.wl_record.specs.Parsing.{number_as_read}
use Rattle.wl_record.proofs.parse.digits.Given as goal

abbrev pub invariant-loop-at : goal.invariant-loop-at
invariant-loop-at l = record {
  within : l.at ≤ length l.bytes;
  digits : AllDigits 10 (take l.at l.bytes);
  value_is : number_as_read l.value ≡ number_as_read (digits_value 10 (take l.at l.bytes));
}

abbrev pub decreases-loop-at : goal.decreases-loop-at
decreases-loop-at l = length l.bytes - l.at
