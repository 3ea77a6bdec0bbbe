-- The waits of a bus, by what was found of it.
use Rattle.std.proofs.Common.{◌≡◌, ◌∙◌, ap, refl, subst, ℕ, Bool, List, length, map, Option, Result, Ok, Err}
use Rattle.std.specs.Prelude.{IfOk}
use Rattle.wl_bound.specs.Families.{Buses}
use Rattle.wl_bound.specs.Rooms.{plain_bus}
use Rattle.wl_level.specs.Places.{first_place}
use Rattle.wl_setup.specs.declared.bus.Bus.{Bus}
use Rattle.wl_setup.specs.declared.bus.Deviation.{Deviation}
use Rattle.wl_respond.specs.declared.asked.Asked.{Asked}
use Rattle.wl_respond.specs.declared.message.MessageWait.{MessageWait}
use Rattle.wl_respond.specs.declared.parts.Line.{Line}
use Rattle.wl_respond.specs.declared.premise.Lacking.{Lacking}
use Rattle.wl_respond.specs.Asks.{has_no_period, message_in}
use Rattle.wl_respond.specs.Bounds.{AreWaits, lines_shown}
use Rattle.wl_respond.specs.Parts.{load_at_most}
use Rattle.wl_respond.specs.Premises.{FirstLack}
use Rattle.wl_respond.specs.Tests.{pass}

-- two facts of what was made give a third one
pub both_ok : {T E : Type 0} (r : Result T E) (P Q R : T → Type 0) → IfOk r P → IfOk r Q → ((x : T) → P x → Q x → R x) → IfOk r R
both_ok (Ok x) P Q R p q f = f x p q
both_ok (Err e) P Q R p q f = tt

module _ (tick : ℕ) (bus : Bus) (f : Buses) (windows : List ℕ) (asked : List Asked) where
  pub are_waits : (deviations : List Deviation) (messages : List MessageWait) (lacking : Option Lacking) (passes : Bool) (jittered : Option ℕ) (load : ℕ) (lines : List Line)
      → deviations ≡ bus.deviations → messages ≡ map message_in asked → passes ≡ pass (plain_bus f) messages windows
      → jittered ≡ first_place (has_no_period asked) (length asked) → load ≡ load_at_most (plain_bus f) messages
      → lines ≡ lines_shown tick (plain_bus f) windows passes asked → FirstLack deviations bus.plan f messages windows lacking
      → AreWaits tick bus f windows asked (record { asked = asked; lines = lines; lacking = lacking; shown = passes; jittered = jittered; load = load })
  are_waits deviations messages lacking passes jittered load lines d m p j l n first =
      let bounds : passes ≡ pass (plain_bus f) (map message_in asked) windows = p ∙ ap (λ (x : List MessageWait). pass (plain_bus f) x windows) m in record {
        asked_are = refl;
        lines_are = n ∙ ap (λ x. lines_shown tick (plain_bus f) windows x asked) bounds;
        shown_is = bounds;
        jittered_is = j;
        load_is = l ∙ ap (load_at_most (plain_bus f)) m;
        first = subst (λ (x : List MessageWait). FirstLack bus.deviations bus.plan f x windows lacking) m
            (subst (λ (x : List Deviation). FirstLack x bus.plan f messages windows lacking) d first);
      }
