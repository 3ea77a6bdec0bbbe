use Rattle.std.proofs.Common.{◌∙◌, sym, subst}
use Rattle.std.specs.List.{All}
use Rattle.std.proofs.lemmas.List.Elements.{All-filter}
use Rattle.wl_traffic.specs.Known.{IsKnown}
use Rattle.wl_traffic.specs.Late.{is_late}
use Rattle.wl_traffic.proofs.late.push_late.Goals as goal

pub longest_wait-requires-clause-sent : goal.longest_wait-requires-clause-sent
longest_wait-requires-clause-sent c =
    subst (All IsKnown) (sym (c.deref.ensures.value ∙ c.in_ok-late.ensures))
    (All-filter (is_late c.args.longest c.args.queue.now c.period_of-period.result) IsKnown c.args.timely.now c.requires.sent)
