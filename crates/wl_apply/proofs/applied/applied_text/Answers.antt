use Rattle.std.proofs.Common.{string_bytes}
use Rattle.toml.specs.View.{table_view}
use Rattle.wl_apply.proofs.Printing.{read_back}
use Rattle.wl_apply.proofs.applied.applied_text.Goals as goal

pub returns-clause-reads_back : goal.returns-clause-reads_back
returns-clause-reads_back c =
    read_back c.args.tick c.args.chosen.now (table_view c.args.top.now) c.args.read c.in_ok-made.made (string_bytes c.in_ok-plan_text.field-0)
    c.read_is_printable.ensures c.in_ok-made.ensures c.in_ok-plan_text.ensures.reads_back
