use Rattle.std.proofs.Common.{◌∷◌}
use Rattle.wl_parts.proofs.Answered.{sets_left}
use Rattle.wl_parts.proofs.read.word.Goals as goal

pub returns : goal.returns
returns c = λ bs rest e.
    let got = c.in_ok-rest.ensures bs (44 ∷ rest) e in
    sets_left c.after.result _ bs rest got.0 (c.after.ensures rest got.1)
