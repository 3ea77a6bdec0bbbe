use Rattle.std.proofs.Common.{◌≡◌, ◌++◌, string_bytes}
use Rattle.wl_settings.specs.Settings.{each_under}
use Rattle.wl_settings.specs.Words.{line_at}
use Rattle.wl_settings.proofs.words.push_rows.Given as goal

-- the lines so far come after the text
abbrev pub invariant-loop-place : goal.invariant-loop-place
invariant-loop-place l = string_bytes l.text ≡ string_bytes l.initial.text ++ each_under (line_at l.asked l.controller l.rows) l.place
