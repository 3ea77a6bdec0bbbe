-- What is asked of a plan beside the test of its table, so that the law on waits says something of it (`respond_law` of wl_proved); and what of that lacks first.
use Rattle.std.specs.Prelude.{◌≡◌, ℕ, true, false, List, length, Option, None, Some}
use Rattle.wl_level.specs.Places.{first_place}
use Rattle.wl_plan.specs.declared.plan.Plan.{Plan}
use Rattle.wl_setup.specs.declared.bus.Deviation.{Deviation}
use Rattle.wl_bound.specs.Covered.{is_covered}
use Rattle.wl_bound.specs.Decides.{first_to_decide_twice}
use Rattle.wl_bound.specs.Families.{Buses}
use Rattle.wl_bound.specs.Rooms.{leaves_room, plain_bus}
use Rattle.wl_bound.specs.Verdicts.{verdict_of}
use Rattle.wl_bound.specs.declared.verdict.Verdict.TheVariants.{ForAny}
use Rattle.wl_margin.specs.Paces.{first_stray, is_turning}
use Rattle.wl_respond.specs.declared.message.MessageWait.{MessageWait}
use Rattle.wl_respond.specs.declared.premise.Lacking.{Lacking}
use Rattle.wl_respond.specs.declared.premise.Lacking.TheVariants.{Astray, Turning, Margin, Deciding, Table, Bounds}
use Rattle.wl_respond.specs.Levels.{has_levels}
use Rattle.wl_respond.specs.Plans.{KeepsTable}
use Rattle.wl_respond.specs.Tests.{pass}

-- `margin` says of the plan that it holds for any senders, proved.
pub record IsForAny (plan : Plan) (f : Buses) : Type 0 where
  pub sound : verdict_of plan f ≡ ForAny
  pub covered : is_covered plan ≡ true
  pub room : leaves_room f ≡ true

-- The plan keeps the table, whose messages have the levels of their queues.
pub record IsOnTable (plan : Plan) (messages : List MessageWait) : Type 0 where
  pub keeps : KeepsTable plan messages
  pub levels : has_levels plan messages ≡ true

module _ (deviations : List Deviation) (plan : Plan) (f : Buses) where
  -- each clock keeps to its tolerance, and has one rate
  abbrev pub NoneStrays : Type 0
  NoneStrays = first_stray deviations plan f ≡ None

  abbrev pub NoneTurns : Type 0
  NoneTurns = first_place (is_turning deviations) (length plan.nodes) ≡ None

-- All of that, nobody decides twice, and the table passes.
pub record HasPremises (deviations : List Deviation) (plan : Plan) (f : Buses) (messages : List MessageWait) (windows : List ℕ) : Type 0 where
  pub paces : NoneStrays deviations plan f
  pub steady : NoneTurns deviations plan f
  pub margin : IsForAny plan f
  pub decides : first_to_decide_twice f ≡ None
  pub table : IsOnTable plan messages
  pub passes : pass (plain_bus f) messages windows ≡ true

-- The first premise that lacks, in this order: all before it hold.
module _ (deviations : List Deviation) (plan : Plan) (f : Buses) (messages : List MessageWait) (windows : List ℕ) where
  abbrev pub FirstLack : Option Lacking → Type 0
  FirstLack None = HasPremises deviations plan f messages windows
  FirstLack (Some (Astray i)) = first_stray deviations plan f ≡ Some i
  FirstLack (Some (Turning i)) = NoneStrays deviations plan f × (first_place (is_turning deviations) (length plan.nodes) ≡ Some i)
  FirstLack (Some Margin) = NoneStrays deviations plan f × NoneTurns deviations plan f × (IsForAny plan f → ⊥)
  FirstLack (Some (Deciding i)) = NoneStrays deviations plan f × NoneTurns deviations plan f × IsForAny plan f × (first_to_decide_twice f ≡ Some i)
  FirstLack (Some Table) =
      NoneStrays deviations plan f × NoneTurns deviations plan f × IsForAny plan f × (first_to_decide_twice f ≡ None) × (IsOnTable plan messages → ⊥)
  FirstLack (Some Bounds) =
      NoneStrays deviations plan f × NoneTurns deviations plan f × IsForAny plan f × (first_to_decide_twice f ≡ None) × IsOnTable plan messages
      × (pass (plain_bus f) messages windows ≡ false)
