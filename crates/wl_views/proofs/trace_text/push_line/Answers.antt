use Rattle.std.proofs.Common.{◌∙◌, ◌++◌, ap, codes, string_bytes}
use Rattle.wl_setup.specs.Names.{name_of}
use Rattle.wl_views.specs.TraceText.{event_text, line_start, sample_words}
use Rattle.wl_views.proofs.Pieces.{five}
use Rattle.wl_views.proofs.trace_text.push_line.Goals as goal

pub returns : goal.returns
returns c =
    five (line_start c.args.tick c.args.i) (name_of c.args.names.now c.args.i) (sample_words c.args.noted.quantum c.args.noted.bit) (event_text c.args.noted.event) (codes "\n")
    (string_bytes c.args.text.now) (string_bytes c.push_start.new.text) (string_bytes c.push_str.new.self) (string_bytes c.push_sample_words.new.text)
    (string_bytes c.push_event.new.text) (string_bytes c.push_str-2.new.self)
    c.in_ok-push_start.ensures
    (c.in_ok-push_str.ensures.bytes ∙ ap (λ name. string_bytes c.push_start.new.text ++ name) c.name_of.ensures)
    c.in_ok-push_sample_words.ensures c.in_ok-push_event.ensures c.in_ok-push_str-2.ensures.bytes
