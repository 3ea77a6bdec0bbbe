use Rattle.std.proofs.Common.{◌∙◌, ◌++◌, ap, string_bytes}
use Rattle.wl_margin.specs.Noise.{counted_line}
use Rattle.wl_margin.proofs.Callers.{grown_thrice}
use Rattle.wl_margin.proofs.Said.{pushed}
use Rattle.wl_margin.proofs.noise.push_noise_lines.Goals as goal

pub returns : goal.returns
returns c =
    grown_thrice c.push_str-2.result (string_bytes c.args.text.now) (string_bytes c.push_str.new.self) (string_bytes c.push_counted.new.text)
    (string_bytes c.push_spike_line.new.text) (string_bytes c.push_str-2.new.self) _ _ _ _ c.in_ok-push_str.ensures.bytes
    (c.in_ok-push_counted.ensures ∙ ap (λ time. string_bytes c.push_str.new.self ++ counted_line time) c.bus_off_time.ensures)
    c.in_ok-push_spike_line.ensures
    (pushed c.push_str-2.result (string_bytes c.push_spike_line.new.text) (string_bytes c.push_str-2.new.self) _ c.push_str-2.ensures.bytes)
