use Rattle.std.proofs.Common.{string_bytes}
use Rattle.toml.specs.View.{table_view}
use Rattle.wl_apply_engine.proofs.Reading.{plan_if_made}
use Rattle.wl_apply_engine.proofs.run.text_applied.Goals as goal

pub returns-in-Ok-clause-ok : goal.returns-in-Ok-clause-ok
returns-in-Ok-clause-ok c =
    plan_if_made c.args.tick c.args.chosen.now c.args.text.now c.in_ok-read.read (table_view c.in-Ok.top) c.in_ok-read.ensures.read c.in-Ok.ensures.document
    c.requires.keys (λ s. string_bytes s) c.applied_text.result c.applied_text.ensures.text c.applied_text.ensures.reads_back
