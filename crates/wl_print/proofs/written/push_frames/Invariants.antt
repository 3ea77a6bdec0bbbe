use Rattle.std.proofs.Common.{◌≡◌, ◌++◌, drop, string_bytes}
use Rattle.std.specs.List.{flat_map}
use Rattle.wl_print.specs.Written.{frame_lines}
use Rattle.wl_print.proofs.written.push_frames.Given as goal

abbrev pub invariant-loop-frame : goal.invariant-loop-frame
invariant-loop-frame l = string_bytes l.text ++ flat_map frame_lines (drop l.frame-index l.frames) ≡ string_bytes l.fn.text ++ flat_map frame_lines l.frames
