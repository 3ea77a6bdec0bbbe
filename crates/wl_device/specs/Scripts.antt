-- What the scripted devices of the tests may answer.
use Rattle.std.specs.Prelude.{◌≡◌, ◌≢◌, ℕ, ◌+◌, ◌≤◌, max, List, [], ◌++◌, length}
use Rattle.wl_device.specs.declared.script.Then.{Then}
use Rattle.wl_device.specs.declared.script.Then.TheVariants as after
use Rattle.wl_device.specs.Devices.{Answer, moved, ended, again, failed}

-- the next bytes of the text while there are any, at most a step of them, and afterwards what is to come then
abbrev pub ScriptGives : List ℕ → ℕ → Then → Answer → List ℕ → Type 0
ScriptGives old step last (moved bytes) new = (old ≡ bytes ++ new) × (length bytes ≤ max step 1)
ScriptGives old step last ended new = (old ≡ []) × (new ≡ []) × (last ≡ after.End)
ScriptGives old step last again new = (old ≡ []) × (new ≡ []) × (last ≡ after.Again)
ScriptGives old step last failed new = (old ≡ []) × (new ≡ []) × (last ≡ after.Failed)

-- What has been written grows by what went, at most a step of it and while there is room; afterwards comes what is to come
-- then. Out of memory it may fail before that.
abbrev pub ScriptTakes : List ℕ → ℕ → ℕ → Then → Answer → List ℕ → ℕ → Type 0
ScriptTakes old room step last (moved bytes) new left = (new ≡ old ++ bytes) × (length bytes + left ≡ room) × (length bytes ≤ max step 1)
ScriptTakes old room step last ended new left = ⊥
ScriptTakes old room step last again new left = (new ≡ old) × (room ≡ 0) × (left ≡ 0) × (last ≡ after.Again)
ScriptTakes old room step last failed new left = (new ≡ old) × (left ≡ room) × (room ≡ 0 → last ≢ after.Again)
