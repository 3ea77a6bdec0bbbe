use Rattle.std.proofs.Common.{◌∙◌, ap, ap₂, not, Bool, List}
use Rattle.wl_report.specs.Report.{report_text}
use Rattle.wl_serial.specs.declared.outcome.Counted.{Counted}
use Rattle.wl_serial.specs.declared.outcome.NodeTotals.{NodeTotals}
use Rattle.wl_views.specs.declared.pick.Pick.{Pick}
use Rattle.wl_views.specs.Picks.{trace_text}
use Rattle.wl_engines.specs.Plans.{shown_totals}
use Rattle.wl_engines.proofs.run_page.run_texts_of.Goals as goal

-- each text is that of its definition
pub returns : goal.returns
returns c = (
  c.in_ok-traffic.ensures.text,
  c.in_ok-report.ensures
      ∙ ap₂ (λ (b : Bool) (totals : List NodeTotals). report_text (shown_totals (not b) totals)) c.is_whole_run.ensures (ap (λ (n : Counted). n.totals) c.requires.counted),
  c.in_ok-part.ensures,
  c.in_ok-trace.ensures ∙ ap (λ (p : Pick). trace_text p c.args.bus.now.plan c.args.bus.now.names) c.pick_of.ensures,
  c.in_ok-wave.ensures,
)
