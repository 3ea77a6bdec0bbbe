-- What a step owes, from the judgement of its sample.
use Rattle.std.proofs.Common.{◌≡◌, ◌∙◌, List, [], ◌∷◌, ◌++◌, sym, ap, subst}
use Rattle.wl_level.specs.declared.Level.{Level}
use Rattle.wl_confine.specs.declared.Happened.{Happened}
use Rattle.wl_machine.specs.declared.progress.Progress.{Progress}
use Rattle.wl_machine.specs.declared.Done.TheVariants as dones
use Rattle.wl_machine.specs.declared.progress.Step.{Step}
use Rattle.wl_machine.specs.declared.state.State.{State}
use Rattle.wl_machine.specs.Stretch.{Sort, Stretch, Sampled, Judgement, continues, begins}
use Rattle.wl_machine.specs.Judged.{judged, or_next}
use Rattle.wl_machine.specs.States.{IsIn, IsAtState, Meets, stretch_by, done_of}

-- a step that only says what happened
abbrev pub says : Happened → Step
says happened = record { happened = happened; done = dones.Nothing }

-- from the judgement, whatever it is
pub meets_by : (m : Progress) (step : Step) (s : Stretch) (x : Sampled) (j : Judgement) → judged s x ≡ j
    → step.happened ≡ j.happened → step.done ≡ done_of j.ended → IsIn m (or_next j.next (stretch_by s.sort (s.own ++ x.level ∷ []))) → Meets m step s x
meets_by m step s x j e h d p = record {
  happened = h ∙ sym (ap (λ k. k.happened) e);
  done = d ∙ sym (ap (λ k. done_of k.ended) e);
  place = subst (λ k. IsIn m (or_next k.next (stretch_by s.sort (s.own ++ x.level ∷ [])))) (sym e) p;
}

-- the stretch goes on, and the machine's state with it
pub meets_on : (m : Progress) (step : Step) (s : Stretch) (x : Sampled) (happened : Happened) (state : State) → judged s x ≡ continues happened
    → step ≡ says happened → m.state ≡ state → IsAtState state m.bits.items m.sent.items s.sort (s.own ++ x.level ∷ []) → Meets m step s x
meets_on m step s x happened state e is at p =
    meets_by m step s x (continues happened) e (ap (λ a. a.happened) is) (ap (λ a. a.done) is)
    (subst (λ st. IsAtState st m.bits.items m.sent.items s.sort (s.own ++ x.level ∷ [])) (sym at) p)

-- the stretch ends, and the machine is in the next one
pub meets_end : (m : Progress) (step : Step) (s : Stretch) (x : Sampled) (happened : Happened) (sort : Sort) (own : List Level)
    → judged s x ≡ begins happened sort own → step ≡ says happened → IsIn m (stretch_by sort own) → Meets m step s x
meets_end m step s x happened sort own e is p = meets_by m step s x (begins happened sort own) e (ap (λ a. a.happened) is) (ap (λ a. a.done) is) p
