use Rattle.std.proofs.Common.{◌≡◌, List, rules, ℕ}
use Rattle.std.proofs.lemmas.List.Elements.{All-filter}
use Rattle.wl_plan.specs.Checked.{IsChecked}
use Rattle.wl_plan.specs.PlanLine.{IsTrueOfPlan}
use Rattle.wl_record_core.specs.Within.{IsWide, IsWithinBy}
use Rattle.wl_serial.specs.Outcome.{outcome_of}
use Rattle.wl_serial.specs.Records.{outcome_records}
use Rattle.wl_views.specs.Windows.{is_within}
use Rattle.wl_engines.specs.Plans.{record_tick, records_text}
use Rattle.wl_engines.proofs.PageProofs.{ok_so}
use Rattle.wl_engines.proofs.records.records_text.Goals as goal

pub returns : goal.returns
returns c names =
    let plan = c.args.plan.now in
    let checked : IsChecked plan = (search rules) in
    ok_so c.text_of.result (λ text is.
    let whole : text.items ≡ records_text c.args.window plan = (search rules) in (
      whole,
      All-filter (λ told. is_within c.args.window (record_tick told)) (λ told. IsTrueOfPlan plan told × IsWide told) (outcome_records (outcome_of plan))
          (c.records_are_true.ensures plan checked),
      λ limits queued within.
          All-filter (λ told. is_within c.args.window (record_tick told)) (λ told. IsWithinBy limits told) (outcome_records (outcome_of plan))
          (c.records_are_within.ensures limits queued plan checked within),
    ))
    c.text_of.ensures
