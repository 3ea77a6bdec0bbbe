-- A start of frame begins the next frame at all machines from the third bit of the intermission on.
use Rattle.std.proofs.Common.{◌≡◌, ◌∙◌, inl, inr, sym, ap, subst, ℕ, ◌<◌, Bool, true, List, [], ◌∷◌, ◌++◌, arith}
use Rattle.std.proofs.lemmas.Bool.{cases_Bool}
use Rattle.std.proofs.lemmas.Option.{none-some}
use Rattle.wl_level.specs.declared.Level.TheVariants.{Dominant}
use Rattle.wl_level.specs.Levels.{is_dominant, level_of}
use Rattle.wl_topology.proofs.Callers.{any_from}
use Rattle.wl_frame.specs.Grammar.{Content}
use Rattle.wl_machine.specs.Stretch.{Input, Stretch}
use Rattle.wl_machine.specs.Stretch.Sort.{Framing}
use Rattle.wl_machine.specs.Stretch.Input.{Sample}
use Rattle.wl_machine.specs.Judged.{drive_of, stretch_of}
use Rattle.wl_machine.specs.States.{stretch_by}
use Rattle.wl_wire.specs.Begins.{frame_begun}
use Rattle.wl_wire.specs.Heads.{OwnHeads}
use Rattle.wl_wire.specs.InStep.{AreBetween, AreSoundFrames}
use Rattle.wl_wire.specs.Wire.{Event, Handed, Wire, bus, drives_dominant, idle_wire, is_between, is_between_by, next_wire, sampled, stretch_at, wire_after}
use Rattle.wl_wire.specs.Wire.Event.{Bit as BusBit}
use Rattle.wl_wire.proofs.Callers.{count_after}
use Rattle.wl_buses.specs.OneFrame.Machines.{HasTwoBits, MayBegin}
use Rattle.wl_buses.proofs.OneFrame.Machines.{first_any, frames_after}
use Rattle.wl_buses.specs.FrameEnd.Third.{MayBeginFromThird}

-- the laws that this rests on
abbrev pub BeginAtAll : Type 0
BeginAtAll = (w : Wire) (handed : ℕ → Handed) → AreSoundFrames w.count w.frames → OwnHeads w → AreBetween w → bus w ≡ Dominant → (k : ℕ) → k < w.count
    → stretch_at (next_wire w (BusBit handed)) k ≡ stretch_by (Framing (frame_begun (stretch_at w k).sort (sampled Dominant (w.frames k) (handed k)))) (Dominant ∷ [])

abbrev pub HeadsStay : Type 0
HeadsStay = (w : Wire) (events : List Event) → OwnHeads w → OwnHeads (wire_after w events)

between_by : (frames : ℕ → List Content) (k : ℕ) (x : Stretch) → MayBegin frames k x → is_between x ≡ true
between_by frames k x (inl idle) = ap (λ q. is_between_by q x.own) idle
between_by frames k x (inr due) = ap is_between due.2

two_between : (x : Stretch) → HasTwoBits x → is_between x ≡ true
two_between x two = ap is_between two.1

module _ (begins : BeginAtAll) (stay : HeadsStay) (count : ℕ) (frames : ℕ → List Content) (third : ℕ → Bool) (past : ℕ → List Input) (handed : ℕ → Handed)
    (sound : AreSoundFrames count frames) (may : MayBeginFromThird count frames third past) where
  abbrev w : Wire
  w = wire_after (idle_wire count frames) may.earlier

  counts : w.count ≡ count
  counts = count_after (idle_wire count frames) may.earlier

  same_frames : w.frames ≡ frames
  same_frames = frames_after (idle_wire count frames) may.earlier

  inside_w : (k : ℕ) → k < w.count → k < count
  inside_w k less = (let e = counts in omega arith)

  sound_w : AreSoundFrames w.count w.frames
  sound_w = subst (λ n. AreSoundFrames n w.frames) (sym counts) (subst (AreSoundFrames count) (sym same_frames) sound)

  heads_w : OwnHeads w
  heads_w = stay (idle_wire count frames) may.earlier (λ k c e. absurd (none-some c e))

  at : (k : ℕ) → k < count → stretch_at w k ≡ stretch_of (past k)
  at k inside = ap stretch_of (sym (may.reached k inside))

  between_at : (k : ℕ) → k < count → is_between (stretch_of (past k)) ≡ true
  between_at k inside = elim (cases_Bool (third k)) [
    | inl there ↦ two_between (stretch_of (past k)) (may.two k inside there)
    | inr other ↦ between_by frames k (stretch_of (past k)) (may.may k inside other)
  ]

  between_w : AreBetween w
  between_w k less = ap is_between (at k (inside_w k less)) ∙ between_at k (inside_w k less)

  module _ (j : ℕ) (there : j < count) (drives : drive_of (stretch_of (past j)) ≡ Dominant) where
    dominant : bus w ≡ Dominant
    dominant =
        ap level_of
        (first_any w.count (drives_dominant w)
        ∙ any_from w.count j (drives_dominant w) (let e = counts in omega arith) (ap (λ y. is_dominant (drive_of y)) (at j there) ∙ ap is_dominant drives))

    pub frame_at_all : (k : ℕ) → k < count
        → stretch_of (past k ++ Sample (sampled Dominant (frames k) (handed k)) ∷ []) ≡ stretch_by (Framing (frame_begun (stretch_of (past k)).sort (sampled Dominant (frames k) (handed k)))) (Dominant ∷ [])
    frame_at_all k inside =
        ap (λ p. stretch_of (p ++ Sample (sampled Dominant (frames k) (handed k)) ∷ [])) (may.reached k inside)
        ∙ ap (λ l. stretch_of (w.past k ++ Sample (sampled l (frames k) (handed k)) ∷ [])) (sym dominant)
        ∙ ap (λ f. stretch_of (w.past k ++ Sample (sampled (bus w) (f k) (handed k)) ∷ [])) (sym same_frames)
        ∙ begins w handed sound_w heads_w between_w dominant k (let e = counts in omega arith)
        ∙ ap (λ y. stretch_by (Framing (frame_begun y.sort (sampled Dominant (w.frames k) (handed k)))) (Dominant ∷ [])) (at k inside)
        ∙ ap (λ f. stretch_by (Framing (frame_begun (stretch_of (past k)).sort (sampled Dominant (f k) (handed k)))) (Dominant ∷ [])) same_frames
