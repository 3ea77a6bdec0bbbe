use Rattle.wl_explain.proofs.condition.push_unlike_pair.Goals as goal

pub returns : goal.returns
returns c =
    rw (c.name_of-a.ensures, c.name_of-b.ensures, c.bit_rate-first.ensures, c.bit_rate-second.ensures, c.node-one.ensures, c.node-other.ensures, c.deref.ensures.0, c.deref-2.ensures.0)
    at c.push_unlike.ensures
