use Rattle.std.proofs.Common.{codes, string_bytes}
use Rattle.wl_views.specs.Vcd.{shown_name, signal_id}
use Rattle.wl_views.proofs.Pieces.{seven}
use Rattle.wl_views.proofs.dump.push_var.Goals as goal

pub returns : goal.returns
returns c =
    seven (codes "$var ") c.args.kind.now (codes " ") (signal_id c.args.letter.now c.args.i) (codes " ") (shown_name c.args.name.now c.args.word.now) (codes " $end\n")
    (string_bytes c.args.text.now) (string_bytes c.push_str.new.self) (string_bytes c.push_str-2.new.self) (string_bytes c.push_str-3.new.self) (string_bytes c.push_id.new.text)
    (string_bytes c.push_str-4.new.self) (string_bytes c.push_name.new.text) (string_bytes c.push_str-5.new.self)
    c.in_ok-push_str.ensures.bytes c.in_ok-push_str-2.ensures.bytes c.in_ok-push_str-3.ensures.bytes c.in_ok-push_id.ensures c.in_ok-push_str-4.ensures.bytes c.in_ok-push_name.ensures c.in_ok-push_str-5.ensures.bytes
