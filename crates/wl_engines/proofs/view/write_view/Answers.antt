use Rattle.std.proofs.Common.{subst, sym}
use Rattle.wl_engines.specs.Output.{Outputs}
use Rattle.wl_engines.specs.Plans.{IsRecordsWithin}
use Rattle.wl_engines.specs.View.{IsOutputOf}
use Rattle.wl_engines.specs.declared.view.View.{View}
use Rattle.wl_engines.proofs.OutputLemmas.{outputs_made}
use Rattle.wl_engines.proofs.view.write_view.Goals as goal

pub returns-in-Records : goal.returns-in-Records
returns-in-Records g c =
    let plan = c.args.plan.now in
    let names = c.args.names.now in
    let takes = g.W.Sink.takes in
    let old = c.args.writer.now in
    let new = c.write_made-in-Records.new.writer in
    let made = c.records_text.result in
    let answer = c.write_made-in-Records.result in
    subst (λ (view : View). Outputs takes (IsOutputOf view plan names) old new answer) (sym c.in-Records.is)
    (outputs_made takes old new (IsRecordsWithin c.in-Records.window plan names) made answer c.write_made-in-Records.ensures (c.records_text.ensures names))
