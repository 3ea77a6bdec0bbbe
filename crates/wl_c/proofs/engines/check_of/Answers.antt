use Rattle.wl_engines.specs.declared.kept.Kept.{Kept}
use Rattle.wl_setup.specs.Check.{IsPlanCheck}
use Rattle.wl_c.proofs.Direct.{plan_made}
use Rattle.wl_engines.specs.declared.reader.TextReader.{TextReader}
use Rattle.wl_c.proofs.engines.check_of.Goals as goal

pub returns : goal.returns
returns c =
    plan_made (λ (s : TextReader). s.rest.now) (λ (k : Kept). k.bytes.items) (record { rest = c.args.text }) c.check_run-answer.new.reader c.new-kept.result c.check_run-answer.new.writer
    c.new-kept.ensures IsPlanCheck c.check_run-answer.result c.made_by.result c.check_run-answer.ensures c.made_by.ensures
