use Rattle.std.proofs.Common.{◌∙◌, ◌++◌, ap, codes, string_bytes}
use Rattle.std.specs.List.{enumerate_from, flat_map}
use Rattle.wl_views.specs.Vcd.{scope_lines, unit_word}
use Rattle.wl_views.proofs.Pieces.{five}
use Rattle.wl_views.proofs.dump.push_header.Goals as goal

pub returns : goal.returns
returns c =
    five (codes "$timescale 1 ") (unit_word c.args.tick.unit) (codes " $end\n") (flat_map scope_lines (enumerate_from 0 c.args.names.now)) (codes "$enddefinitions $end\n")
    (string_bytes c.args.text.now) (string_bytes c.push_str.new.self) (string_bytes c.push_str-2.new.self) (string_bytes c.push_str-3.new.self)
    (string_bytes c.push_scopes.new.text) (string_bytes c.push_str-4.new.self)
    c.in_ok-push_str.ensures.bytes (c.in_ok-push_str-2.ensures.bytes ∙ ap (λ word. string_bytes c.push_str.new.self ++ word) c.unit_word.ensures)
    c.in_ok-push_str-3.ensures.bytes c.in_ok-push_scopes.ensures c.in_ok-push_str-4.ensures.bytes
