-- The settings that a text asks for, or words in its place.
use Rattle.std.proofs.Common.{◌<◌, ◌≤◌, refl, length, [], ◌∷◌, List, arith}
use Rattle.std.specs.Prelude.{Bool, Result}
use Rattle.wl_device.specs.Devices.{Answer}
use Rattle.wl_settings.specs.Runs.{RunsSettings}
use Rattle.wl_settings.specs.WordRuns.{RunsWords}
use Rattle.wl_settings.specs.declared.fault.SettingsFault.{SettingsFault}
use Rattle.wl_settings.specs.declared.said.Shown.{Shown}
use Rattle.wl_settings.specs.declared.topics.AskedWord.{AskedWord}
use Rattle.wl_views.specs.Ticks.{tick_picoseconds}
use Rattle.wl_views.specs.declared.tick.Tick.{Tick}
use Rattle.wl_sim.specs.Tasks.{FindsSettings}

module _ {S T : Type 0} (gives : S → Answer → S → Type 0) (takes : T → Answer → T → Type 0) where
  -- no words were asked, and the text was read
  pub finds_by_text : (s s' : S) (t t' : T) (tick : Tick) (shown : Shown) (asked : List AskedWord) → length asked < 1 → (r : Result Bool SettingsFault)
      → RunsSettings gives takes (tick_picoseconds tick) shown s s' t t' r → FindsSettings gives takes s s' t t' tick shown asked r
  finds_by_text s s' t t' tick shown [] few r h = h
  finds_by_text s s' t t' tick shown (w ∷ ws) few r h = absurd (omega arith)

  -- words in the place of a text were asked, and nothing was read
  pub finds_by_words : (s : S) (t t' : T) (tick : Tick) (shown : Shown) (asked : List AskedWord) → 1 ≤ length asked → (r : Result Bool SettingsFault)
      → RunsWords takes (tick_picoseconds tick) shown asked t t' r → FindsSettings gives takes s s t t' tick shown asked r
  finds_by_words s t t' tick shown [] some r h = absurd (omega arith)
  finds_by_words s t t' tick shown (w ∷ ws) some r h = (refl, h)
