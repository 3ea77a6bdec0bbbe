use Rattle.std.proofs.Common.{◌≡◌, ◌++◌, drop, string_bytes}
use Rattle.std.specs.List.{flat_map}
use Rattle.wl_print.specs.Written.{later_words}
use Rattle.wl_print.proofs.written.push_later_bytes.Given as goal

abbrev pub invariant-loop-byte : goal.invariant-loop-byte
invariant-loop-byte l = string_bytes l.text ++ flat_map later_words (drop l.byte-index l.bytes) ≡ string_bytes l.fn.text ++ flat_map later_words l.bytes
