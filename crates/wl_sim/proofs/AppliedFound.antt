-- A plan that got the settings that a text asks for, or words in its place.
use Rattle.std.proofs.Common.{◌≡◌, ◌<◌, ◌≤◌, refl, length, [], ◌∷◌, List, arith}
use Rattle.std.specs.Prelude.{Result}
use Rattle.wl_apply_engine.specs.declared.fault.AppliedFault.{AppliedFault}
use Rattle.wl_apply_engine.specs.Applying.{RunsApplied}
use Rattle.wl_device.specs.Devices.{Answer}
use Rattle.wl_settings.specs.Questions.{wanted_by_words}
use Rattle.wl_settings.specs.Texts.{ReadsWanted}
use Rattle.wl_settings.specs.declared.topics.AskedWord.{AskedWord}
use Rattle.wl_views.specs.Ticks.{tick_picoseconds}
use Rattle.wl_views.specs.declared.tick.Tick.{Tick}
use Rattle.wl_sim.specs.Tasks.{AppliesAsked}

module _ {S P T : Type 0} (gives : S → Answer → S → Type 0) (plan_gives : P → Answer → P → Type 0) (takes : T → Answer → T → Type 0) where
  -- no words were asked, and the text was read
  pub applies_by_text : (s s' : S) (p p' : P) (t t' : T) (tick : Tick) (asked : List AskedWord) → length asked < 1 → (r : Result (Unit {0}) AppliedFault)
      → RunsApplied plan_gives takes (tick_picoseconds tick) p p' t t' (λ wanted. ReadsWanted gives (tick_picoseconds tick) s wanted s') r
      → AppliesAsked gives plan_gives takes s s' p p' t t' tick asked r
  applies_by_text s s' p p' t t' tick [] few r h = h
  applies_by_text s s' p p' t t' tick (w ∷ ws) few r h = absurd (omega arith)

  -- words in the place of a text were asked, and no text was read
  pub applies_by_words : (s : S) (p p' : P) (t t' : T) (tick : Tick) (asked : List AskedWord) → 1 ≤ length asked → (r : Result (Unit {0}) AppliedFault)
      → RunsApplied plan_gives takes (tick_picoseconds tick) p p' t t' (λ wanted. wanted_by_words (tick_picoseconds tick) asked ≡ wanted) r
      → AppliesAsked gives plan_gives takes s s p p' t t' tick asked r
  applies_by_words s p p' t t' tick [] some r h = absurd (omega arith)
  applies_by_words s p p' t t' tick (w ∷ ws) some r h = (refl, h)
