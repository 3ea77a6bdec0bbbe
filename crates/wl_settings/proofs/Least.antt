-- The least refusal, by those so far and those that are left.
use Rattle.std.proofs.Common.{◌≡◌, refl, Option, Some, None, arith}
use Rattle.wl_settings.specs.declared.judged.Refusal.{Refusal}
use Rattle.wl_settings.specs.Rankings.{lesser_of}

-- the lesser of the least one so far and the least one that is left
abbrev pub merged : Option Refusal → Option Refusal → Option Refusal
merged None later = later
merged (Some r) later = Some (lesser_of r later)

-- with one refusal more among those so far
abbrev pub with_one : Option Refusal → Refusal → Option Refusal
with_one None r = Some r
with_one (Some b) r = Some (lesser_of b (Some r))

pub merged-one : (so_far : Option Refusal) (r : Refusal) (later : Option Refusal)
    → merged (with_one so_far r) later ≡ merged so_far (Some (lesser_of r later))
merged-one None r later = refl
merged-one (Some b) r None = refl
merged-one (Some b) r (Some s) = grind arith
