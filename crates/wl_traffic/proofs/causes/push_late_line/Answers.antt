use Rattle.std.proofs.Common.{◌∙◌, ◌++◌, ap₂, string_bytes, ℕ}
use Rattle.std.proofs.lemmas.Result.{on_ok_weaker}
use Rattle.wl_margin.proofs.Callers.{grown_ok}
use Rattle.wl_views.specs.Ticks.{microseconds}
use Rattle.wl_traffic.specs.Causes.{late_times, late_head}
use Rattle.wl_traffic.proofs.causes.push_late_line.Goals as goal

pub returns : goal.returns
returns c =
    grown_ok c.push_late_times.result (string_bytes c.args.text.now) (string_bytes c.push_late_words.new.text) (string_bytes c.push_late_times.new.text)
    (late_head c.args.names.now c.args.message.now)
    (late_times (microseconds c.args.tick c.args.message.now.waited) (microseconds c.args.tick c.args.message.now.allowed))
    c.in_ok-push_late_words.ensures
    (on_ok_weaker c.push_late_times.result
    (λ grows.
    grows
    ∙ ap₂ (λ (waited allowed : ℕ). string_bytes c.push_late_words.new.text ++ late_times waited allowed) c.microseconds_of-waited.ensures
    c.microseconds_of-allowed.ensures)
    c.push_late_times.ensures)
