use Rattle.std.proofs.lemmas.Bool.{le-leb, lt-leb}
use Rattle.wl_clock.proofs.Guesses.{held_low, held_corrected}
use Rattle.wl_clock.proofs.quotients.quotient.Goals as goal

pub overflow_sub-rest : goal.overflow_sub-rest
overflow_sub-rest c = held_low c.args.number c.args.by c.args.inverse c.requires.divides c.requires.inverse

pub returns : goal.returns
returns c =
    held_corrected c.args.number c.args.by c.args.inverse c.from.result c.requires.divides c.ranges.number.fits c.requires.inverse
    (λ less. rw (lt-leb _ _ less) at c.from.ensures) (λ enough. rw (le-leb _ _ enough) at c.from.ensures)
