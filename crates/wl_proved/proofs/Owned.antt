-- The plan of a bus is one on which no frame waits longer than its waits say, if no premise lacks.
use Rattle.std.proofs.Common.{◌≡◌, ◌∙◌, refl, sym, subst, ℕ, Bool, true, List, length, Option, Some, None}
use Rattle.wl_level.specs.Places.{PlaceLaws}
use Rattle.wl_plan.specs.declared.plan.Plan.{Plan}
use Rattle.wl_setup.specs.declared.bus.Bus.{Bus}
use Rattle.wl_setup.specs.declared.plan_text.PlanText.{PlanText}
use Rattle.wl_bound.specs.Conditions.{first_failure_of, plain}
use Rattle.wl_bound.specs.Decides.{leaves_room_to_decide}
use Rattle.wl_bound.specs.Families.{Buses}
use Rattle.wl_bound.specs.Oscillators.{Pace}
use Rattle.wl_bound.specs.Rooms.{leaves_room, plain_bus}
use Rattle.wl_bound.specs.declared.condition.Senders.TheVariants.{Any}
use Rattle.wl_lines.specs.Formats.{lines_text}
use Rattle.wl_lines.specs.Shapes.{TextLine}
use Rattle.wl_margin.specs.Margins.{paces_of}
use Rattle.wl_margin.specs.Paces.{PaceLaw, keep_pace}
use Rattle.wl_margin.proofs.Callers.{paces-length}
use Rattle.wl_respond.specs.declared.bounds.Waits.{Waits}
use Rattle.wl_respond.specs.declared.message.MessageWait.{MessageWait}
use Rattle.wl_respond.specs.Bounds.{AreWaitsBy, AreWaitsFor, asked_in}
use Rattle.wl_respond.specs.Levels.{has_levels}
use Rattle.wl_respond.specs.Plans.{KeepsTable}
use Rattle.wl_respond.specs.Senders.{family_with_text}
use Rattle.wl_respond.specs.Tables.{messages_of}
use Rattle.wl_respond.specs.Tests.{pass}
use Rattle.wl_respond.specs.Texts.{AreLinesOf, AreLinesOfBus, IsTextOfBus}
use Rattle.wl_proved.specs.PlansOfFamily.{IsPlanOfFamily, IsRunnable}
use Rattle.wl_proved.specs.Waits.{HasBoundedLines, HasBoundedText, HasBoundedWaits, messages_asked}
use Rattle.wl_proved.specs.Words.{AreSaidBounded, IsFamilyOfText, SaysBounded}
use Rattle.wl_proved.proofs.Bounded.{decides_of, inside_of, none_turns, sound_of}
use Rattle.wl_proved.proofs.Members.{plan_of_senders, senders_have}
use Rattle.wl_proved.proofs.Saying.{has_clocks, lines_say, premises_of, proved_waits}

abbrev TableLaw : Type 0
TableLaw = (f : Buses) (plan : Plan) (messages : List MessageWait) (windows : List ℕ) → IsPlanOfFamily f plan → first_failure_of f plain Any ≡ None → leaves_room f ≡ true
    → leaves_room_to_decide f ≡ true → pass (plain_bus f) messages windows ≡ true → KeepsTable plan messages → has_levels plan messages ≡ true → HasBoundedWaits f plan messages

module _ (places : PlaceLaws) (law : TableLaw) (tick : ℕ) (any : Bool) (text : PlanText) (bus : Bus) where
  pub any_waits : (f : Buses) (w : Waits) (are : AreWaitsFor tick any text bus f w) → w.lacking ≡ None → (plan : Plan) → IsPlanOfFamily f plan
      → KeepsTable plan (messages_asked f any text are.0) → has_levels plan (messages_asked f any text are.0) ≡ true → HasBoundedWaits f plan (messages_asked f any text are.0)
  any_waits f w are none plan of keeps levels =
      let p = premises_of tick bus f are.1 (asked_in f any text are.0) w are.3 none in
      law f plan (messages_asked f any text are.0) are.1 of (sound_of bus.plan f p.margin.sound) p.margin.room (decides_of places f p.decides) p.passes keeps levels

  module _ (paced : PaceLaw) (runs : IsRunnable bus.plan) (count : length bus.deviations ≡ length bus.plan.nodes) where
    pub own_waits : (f : Buses) (w : Waits) (are : AreWaitsFor tick any text bus f w) → w.lacking ≡ None → IsFamilyOfText text bus f
        → HasBoundedWaits f bus.plan (messages_asked f any text are.0)
    own_waits f w are none family =
        let p = premises_of tick bus f are.1 (asked_in f any text are.0) w are.3 none in
        let same = paces-length bus.deviations family.0 family.1 ∙ count in
        let pace = paced bus.deviations bus.plan f p.paces (none_turns places bus.deviations (length bus.plan.nodes) p.steady) in
        let own : IsPlanOfFamily f bus.plan = subst (λ (g : Buses). IsPlanOfFamily g bus.plan) (sym family.2)
        (plan_of_senders bus.plan family.0 (messages_of bus.plan text) same runs (subst (λ (g : Buses). keep_pace bus.plan g ≡ true) family.2 pace) p.margin.covered
        (inside_of bus.plan f p.margin.sound) (senders_have f any text bus.plan text are.0 are.2 p.table.keeps)) in
        any_waits f w are none bus.plan own p.table.keeps p.table.levels

    module _ (said : List TextLine) (met : Bool) where
      by_clocks : (o : Option (List Pace)) → paces_of bus.deviations ≡ o → (found : Option Waits) → AreWaitsBy tick any text bus o found → AreLinesOf bus.names found said met
          → AreSaidBounded bus.names said → HasBoundedLines tick any text bus said met
      by_clocks None e found none told bounded =
          (let lines : AreLinesOf bus.names None said met = subst (λ (x : Option Waits). AreLinesOf bus.names x said met) none told in absurd (has_clocks bus.names said met lines bounded))
      by_clocks (Some paces) e found is told bounded =
          let lines : AreLinesOf bus.names (Some is.0) said met = subst (λ (x : Option Waits). AreLinesOf bus.names x said met) is.1 told in
          let none = proved_waits bus.names is.0 said met lines bounded in
          let family : IsFamilyOfText text bus (family_with_text bus.plan text paces) = (paces, e, refl) in record {
            family = family_with_text bus.plan text paces;
            of = family;
            figures = is.0;
            are = is.2;
            told = lines;
            proved = none;
            waits = own_waits (family_with_text bus.plan text paces) is.0 is.2 none family;
          }

      pub line_waits : AreLinesOfBus tick any text bus said met → AreSaidBounded bus.names said → HasBoundedLines tick any text bus said met
      line_waits is bounded = by_clocks (paces_of bus.deviations) refl is.0 is.1 is.2 bounded

    pub text_waits : (words : List ℕ) (met : Bool) → IsTextOfBus tick any text bus words met → SaysBounded bus.names words → HasBoundedText tick any text bus words met
    text_waits words met is bounded =
        let said : SaysBounded bus.names (lines_text is.0) = subst (SaysBounded bus.names) is.1 bounded in
        (is.0, is.1, line_waits is.0 met is.2 (lines_say bus.names is.2.0 is.0 met is.2.2 said))
