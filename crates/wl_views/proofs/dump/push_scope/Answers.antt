use Rattle.std.proofs.Common.{codes, string_bytes}
use Rattle.wl_views.specs.Vcd.{var_lines}
use Rattle.wl_views.proofs.Pieces.{five}
use Rattle.wl_views.proofs.dump.push_scope.Goals as goal

pub returns : goal.returns
returns c =
    five (codes "$scope module ") c.args.name.now (codes " $end\n") (var_lines c.args.i c.args.name.now) (codes "$upscope $end\n")
    (string_bytes c.args.text.now) (string_bytes c.push_str.new.self) (string_bytes c.push_str-2.new.self) (string_bytes c.push_str-3.new.self)
    (string_bytes c.push_vars.new.text) (string_bytes c.push_str-4.new.self)
    c.in_ok-push_str.ensures.bytes c.in_ok-push_str-2.ensures.bytes c.in_ok-push_str-3.ensures.bytes c.in_ok-push_vars.ensures c.in_ok-push_str-4.ensures.bytes
