use Rattle.std.proofs.Common.{◌≡◌, ◌++◌, string_bytes, take}
use Rattle.std.specs.List.{flat_map}
use Rattle.wl_report.specs.Report.{frame_line}
use Rattle.wl_report.proofs.nodes.push_frames.Given as goal

-- the lines of the frames so far come after the text
abbrev pub invariant-loop-passed : goal.invariant-loop-passed
invariant-loop-passed l =
    string_bytes l.text ≡ string_bytes l.initial.text ++ flat_map (frame_line l.number) (take l.passed-index l.frames)
