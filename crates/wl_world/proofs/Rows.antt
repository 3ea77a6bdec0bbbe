-- A world of two groups, computed: what is emitted at the start, one delivery, one join, one restart, and events that are not possible.
use Rattle.std.proofs.Common.{◌≡◌, ◌+◌, ◌*◌, false, [], ◌∷◌, refl}
use Rattle.wl_record_core.specs.declared.record.Record.TheVariants.{Silence}
use Rattle.wl_world.specs.declared.events.Event.TheVariants.{Deliver, Join, Restart}
use Rattle.wl_world.specs.declared.events.Answer.TheVariants.{Done, Idle}
use Rattle.wl_plan.specs.Line.{Line}
use Rattle.wl_world.specs.Scene.{Cast, start, run, answers}

-- quanta of two ticks, a tick apart, and a delay of one tick; nobody drives
small : Line
small = record {
  nodes = 2;
  instant = λ i k. i + 2 * k;
  drives = λ i levels. false;
  quiet = λ i levels. 0;
  delay = λ i j. 1;
  disturbed = λ j t. false;
  stop = 10;
}

-- node 0 in group 0, node 1 in group 1
apart : Cast
apart = record { groups = 2; group_of = λ i. i }

at_the_start : (start small apart).emitted ≡ Silence 0 0 0 ∷ Silence 1 0 1 ∷ []
unfolding small apart
at_the_start = refl

its_own_alone : ((start small apart).parties 0).taken ≡ Silence 0 0 0 ∷ []
unfolding small apart
its_own_alone = refl

one_delivery : ((run small apart (Deliver 0 1 ∷ []) (start small apart)).parties 0).taken ≡ Silence 1 0 1 ∷ Silence 0 0 0 ∷ []
unfolding small apart
one_delivery = refl

one_join : ((run small apart (Deliver 0 1 ∷ Join 1 0 ∷ []) (start small apart)).parties 1).taken ≡ Silence 1 0 1 ∷ Silence 0 0 0 ∷ Silence 1 0 1 ∷ []
unfolding small apart
one_join = refl

a_restart_forgets : ((run small apart (Deliver 0 1 ∷ Restart 0 ∷ []) (start small apart)).parties 0).taken ≡ Silence 0 0 0 ∷ []
unfolding small apart
a_restart_forgets = refl

no_such_record_or_group : answers small apart (Deliver 0 2 ∷ Join 0 2 ∷ Restart 2 ∷ Deliver 1 1 ∷ []) (start small apart) ≡ Idle ∷ Idle ∷ Idle ∷ Done ∷ []
unfolding small apart
no_such_record_or_group = refl
