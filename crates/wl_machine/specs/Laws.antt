-- Words for the laws of the machine: stretches that grow, a transmitter that finds what it sends, and the frame that a stretch sends.
use Rattle.std.specs.Prelude.{◌≡◌, ◌⊎◌, ℕ, ◌<◌, List, [], ◌∷◌, ◌++◌, map, Some, None}
use Rattle.wl_level.specs.declared.Level.{Level}
use Rattle.wl_level.specs.Places.{at}
use Rattle.wl_frame.specs.Grammar.{Content}
use Rattle.wl_machine.specs.declared.state.Role.TheVariants.{Tx}
use Rattle.wl_machine.specs.Stretch.{Stretch, Sampled}
use Rattle.wl_machine.specs.Stretch.Sort.{Framing, Intermission}
use Rattle.wl_machine.specs.Stretch.Input.{Sample}
use Rattle.wl_machine.specs.Stretch.Ended.{Sent}
use Rattle.wl_machine.specs.Frames.{sent_at}
use Rattle.wl_machine.specs.Judged.{judged, stretch_after, head_of}
use Rattle.wl_machine.specs.States.{stretch_by}

-- the level of a sample
abbrev pub level_in : Sampled → Level
level_in x = x.level

-- a stretch with more samples of its own
abbrev pub longer_stretch : Stretch → List Sampled → Stretch
longer_stretch s during = record { sort = s.sort; own = s.own ++ map level_in during }

-- no sample of a list ends the stretch: not the one after any front of the list
abbrev pub NoneEnds : Stretch → List Sampled → Type 0
NoneEnds s during = (front rest : List Sampled) (x : Sampled) → during ≡ front ++ x ∷ rest → (judged (longer_stretch s front) x).next ≡ None

-- a transmitter found what it sent, at each place below n
abbrev pub FoundSent : Content → List Level → ℕ → Type 0
FoundSent head own n = (k : ℕ) → k < n → at own k ≡ sent_at head own k

-- A frame that is sent is the head with which its stretch began.
pub record HeadLaws : Type 0 where
  -- only the stretch of that head completes it, and ends with it
  pub sent : (s : Stretch) (x : Sampled) (frame : Content) → (judged s x).ended ≡ Sent frame → s.sort ≡ Framing (Some frame)
  pub over : (s : Stretch) (x : Sampled) (frame : Content) → (judged s x).ended ≡ Sent frame
      → (judged s x).next ≡ Some (stretch_by (Intermission Tx) [])
  -- the head of a stretch is the one at the sample that began it, or none, and stays that
  pub head : (s next : Stretch) (x : Sampled) → (judged s x).next ≡ Some next → (head_of next.sort ≡ x.head) ⊎ (head_of next.sort ≡ None)
  pub on : (s : Stretch) (x : Sampled) → (judged s x).next ≡ None → (stretch_after s (Sample x)).sort ≡ s.sort
