use Rattle.wl_buses.proofs.BoundedWaits.Fields.{lesser_field}
use Rattle.wl_buses.proofs.bounded_waits.tests.a_winner_has_the_lesser_field.Goals as goal

pub returns : goal.returns
returns c = λ winner loser is beats. lesser_field winner loser is beats
