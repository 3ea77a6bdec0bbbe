use Rattle.std.proofs.Common.{subst}
use Rattle.wl_engines.specs.declared.kept.Kept.{Kept}
use Rattle.wl_c.proofs.Direct.{run_made}
use Rattle.wl_c.specs.Made.{IsMade}
use Rattle.wl_engines.specs.Plans.{IsRunOutput}
use Rattle.wl_engines.specs.declared.reader.TextReader.{TextReader}
use Rattle.wl_c.proofs.engines.run_of.Goals as goal

pub returns : goal.returns
returns c =
    let made = subst (λ a. IsMade a c.plan_run-found.new.writer.bytes.items c.made_by.result) c.without_answer-answer.ensures c.made_by.ensures in
    run_made (λ (s : TextReader). s.rest.now) (λ (k : Kept). k.bytes.items) (record { rest = c.args.text }) c.plan_run-found.new.reader c.new-kept.result c.plan_run-found.new.writer
    c.new-kept.ensures IsRunOutput c.plan_run-found.result c.made_by.result c.plan_run-found.ensures made
