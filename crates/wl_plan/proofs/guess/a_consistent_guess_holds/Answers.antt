-- The law rests on those of lines and of tables.
use Rattle.wl_plan.proofs.GuessProofs.{guess_laws}
use Rattle.wl_plan.proofs.guess.a_consistent_guess_holds.Goals as goal

pub returns : goal.returns
returns c = guess_laws c.driven_laws.ensures c.table_laws.ensures
