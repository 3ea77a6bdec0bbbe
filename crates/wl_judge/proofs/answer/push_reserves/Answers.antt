use Rattle.std.proofs.Common.{codes, string_bytes}
use Rattle.wl_margin.proofs.Callers.{grown_ok}
use Rattle.wl_judge.specs.Answers.{reserve_line, source_line}
use Rattle.wl_judge.proofs.answer.push_reserves.Goals as goal

pub returns : goal.returns
returns c =
    grown_ok c.push_reserve.result (string_bytes c.args.text.now) (string_bytes c.push_source.new.text) (string_bytes c.push_reserve.new.text)
    (source_line c.args.explain (codes "margin, its searches")) (reserve_line c.args.tick c.args.base c.args.base.wider)
    c.in_ok-push_source.ensures c.push_reserve.ensures
