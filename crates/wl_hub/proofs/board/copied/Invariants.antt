use Rattle.std.proofs.Common.{◌≡◌, ◌+◌, ◌++◌, take, vec_len, vec_capacity}
use Rattle.std.specs.Mem.Slots.{slots_items}
use Rattle.wl_hub.proofs.board.copied.Given as goal

abbrev pub invariant-loop-i : goal.invariant-loop-i
invariant-loop-i l = record {
  same : l.words.items ≡ l.initial.words.items ++ take l.i (slots_items l.closed.words);
  room : vec_capacity l.words ≡ vec_capacity l.initial.words;
  more : vec_len l.words ≡ vec_len l.initial.words + l.i;
}
