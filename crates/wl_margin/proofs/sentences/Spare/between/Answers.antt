use Rattle.std.proofs.Common.{true, ◌∙◌, ap₂}
use Rattle.wl_margin.specs.Sentences.{signed_words}
use Rattle.wl_margin.proofs.Said.{below_words}
use Rattle.wl_margin.proofs.sentences.Spare.between.Goals as goal

pub returns-else-sides : goal.returns-else-sides
returns-else-sides c =
    ap₂ (signed_words true) c.around.ensures.picoseconds c.around.ensures.quanta ∙ below_words c.args.units c.args.sides c.if-sides.false
