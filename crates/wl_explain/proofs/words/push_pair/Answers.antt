use Rattle.std.proofs.Common.{string_bytes}
use Rattle.wl_margin.proofs.Callers.{grown_ok}
use Rattle.wl_explain.proofs.words.push_pair.Goals as goal

pub returns : goal.returns
returns c =
    grown_ok c.push_way.result (string_bytes c.args.text.now) (string_bytes c.push_clocks.new.text) (string_bytes c.push_way.new.text) _ _
    (rw (c.name_of-a.ensures, c.name_of-b.ensures, c.node-one.ensures, c.node-other.ensures, c.deref.ensures.0) at c.in_ok-push_clocks.ensures)
    c.push_way.ensures
