-- What the premises of the text of `respond` give to the law on waits.
use Rattle.std.proofs.Common.{◌≡◌, ap, refl, ℕ, zero, suc, ◌<◌, List, true, false, Bool, not, Option, Some, None, arith}
use Rattle.wl_level.specs.Places.{first_place, PlaceLaws}
use Rattle.wl_topology.specs.Driven.{any_below}
use Rattle.wl_plan.specs.declared.plan.Plan.{Plan}
use Rattle.wl_setup.specs.declared.bus.Deviation.{Deviation}
use Rattle.wl_bound.specs.Conditions.{first_failure_of, plain}
use Rattle.wl_bound.specs.Decides.{decides_twice, first_to_decide_twice, leaves_room_to_decide}
use Rattle.wl_bound.specs.Families.{Buses}
use Rattle.wl_bound.specs.Rooms.{plain_bus}
use Rattle.wl_bound.specs.Verdicts.{outside_of, unless_outside, verdict_of}
use Rattle.wl_bound.specs.declared.condition.Senders.TheVariants.{Any, One}
use Rattle.wl_bound.specs.declared.verdict.Outside.{Outside}
use Rattle.wl_bound.specs.declared.verdict.Verdict.{Verdict}
use Rattle.wl_bound.specs.declared.verdict.Verdict.TheVariants.{ForAny}
use Rattle.wl_margin.specs.Paces.{is_turning}
use Rattle.wl_proved.proofs.Said.{inside_verdict, none_fails}

none_outside : (cause : Option Outside) (verdict : Verdict) → unless_outside cause verdict ≡ ForAny → cause ≡ None
none_outside None verdict e = refl
none_outside (Some cause) verdict e = cc

pub inside_of : (plan : Plan) (f : Buses) → verdict_of plan f ≡ ForAny → outside_of plan ≡ None
inside_of plan f e = none_outside _ _ e

pub sound_of : (plan : Plan) (f : Buses) → verdict_of plan f ≡ ForAny → first_failure_of f plain Any ≡ None
sound_of plan f e = none_fails (first_failure_of f plain Any) (first_failure_of f plain One) (inside_verdict _ _ e)

-- if none below n passes, no first one does
none_below : (test : ℕ → Bool) (n : ℕ) → ((k : ℕ) → k < n → test k ≡ false) → any_below n test ≡ false
none_below test zero h = refl
none_below test (suc n) h = rw (none_below test n (λ k less. h k (omega (arith, less)))) (h n (omega arith))

pub decides_of : PlaceLaws → (f : Buses) → first_to_decide_twice f ≡ None → leaves_room_to_decide f ≡ true
decides_of laws f e = ap not (none_below (decides_twice (plain_bus f)) (plain_bus f).nodes ((laws.none_found (decides_twice (plain_bus f)) (plain_bus f).nodes).0 e))

pub none_turns : PlaceLaws → (deviations : List Deviation) (n : ℕ) → first_place (is_turning deviations) n ≡ None → any_below n (is_turning deviations) ≡ false
none_turns laws deviations n e = none_below (is_turning deviations) n ((laws.none_found (is_turning deviations) n).0 e)
