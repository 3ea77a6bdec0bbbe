use Rattle.std.proofs.Common.{◌≡◌, ◌∙◌, ◌==◌, false, sym}
use Rattle.std.proofs.lemmas.Bool.{ne_eqb}
use Rattle.wl_spikes.specs.Aftermaths.{rank_of}
use Rattle.wl_spikes.proofs.tally.ClassTally.of.Goals as goal

pub returns-else-rank : goal.returns-else-rank
returns-else-rank c =
    let other : (rank_of c.args.aftermath.class == rank_of c.args.class) ≡ false =
    ne_eqb (rank_of c.args.aftermath.class) (rank_of c.args.class) (λ e. c.if-rank.false (c.rank.ensures ∙ e ∙ sym c.rank-2.ensures)) in
    rw other (c.none.ensures c.args.class)
