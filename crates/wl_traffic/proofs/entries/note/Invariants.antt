use Rattle.std.proofs.Common.{◌≡◌, ◌++◌, take, drop}
use Rattle.wl_traffic.specs.Entries.{entries_with}
use Rattle.wl_traffic.proofs.entries.note.Given as goal

-- none of those so far is meant
abbrev pub invariant-loop-k : goal.invariant-loop-k
invariant-loop-k l = record {
  same : l.entries.items ≡ l.initial.entries.items;
  later : entries_with l.fate l.frame l.initial.entries.items ≡ take l.k l.initial.entries.items ++ entries_with l.fate l.frame (drop l.k l.initial.entries.items);
}
