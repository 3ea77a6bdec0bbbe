-- The frames on a line, from its first one on.
use Rattle.std.proofs.Common.{◌≡◌, ◌∙◌, inl, inr, refl, ap, sym, ℕ, ◌<◌, true, [], length, Some, None, arith}
use Rattle.std.specs.Prelude.{slice_get}
use Rattle.std.proofs.lemmas.Bool.{cases_Bool, lt-ltb}
use Rattle.std.proofs.lemmas.List.{length-map}
use Rattle.wl_node.specs.declared.setup.NodeSetup.{NodeSetup}
use Rattle.wl_buses.specs.BothProofs.Queues.{head_at, queued_contents, wakes_at}
use Rattle.wl_buses.proofs.BothProofs.Heads.{head_late, some_then, unsent_first}
use Rattle.wl_buses.specs.OneFrame.Expected.{IsOutset, Outset}
use Rattle.wl_buses.specs.OneFrame.Stations.{AreOnALine, AreStations, HaveRoom, Stations}
use Rattle.wl_buses.specs.FirstFrame.FirstStarts.{AreIdle, HandTheFirst, Waiting, decision_quantum, first_outset, has_first}
use Rattle.wl_buses.specs.NextFrames.Frames.{HasRoomForAll, IsBegun}
use Rattle.wl_buses.specs.CleanLines.Lines.{FirstFramesOfLine}
use Rattle.wl_buses.proofs.CleanPlans.Extending as extending
use Rattle.wl_buses.proofs.CleanPlans.Extending.{BegunBy, FreeNext, Gone, NextHanded, OutsetNext, RestNext}
use Rattle.wl_buses.proofs.SentFrames.Nexting.{FirstHanded}

-- the laws that this rests on
abbrev pub OutsetFirst : Type 0
OutsetFirst = (w : Waiting) → AreOnALine w.stations → AreIdle w → IsOutset w.stations (first_outset w)

module _ (begins : OutsetNext) (rest : RestNext) (free : FreeNext) (begun_by : BegunBy) (next_handed : NextHanded) (first_law : FirstHanded) (first_begins : OutsetFirst) (setups : ℕ → NodeSetup) (w : Waiting) (are : AreStations w.stations)
    (room : HaveRoom w.stations) (chase : ℕ → ℕ) (enough : HasRoomForAll w.stations chase) (idle : AreIdle w) (hand : HandTheFirst w setups) (queues : (i : ℕ) → w.frames i ≡ queued_contents (setups i).queue) where
  abbrev s : Stations
  s = w.stations

  abbrev o : Outset
  o = first_outset w

  begun : (bits : ℕ) × IsBegun s (record { outset = o; bits = bits })
  begun = begun_by s o chase are room enough (first_begins w are.line idle)

  abbrev k : ℕ
  k = begun.1.won.station

  own : slice_get (w.frames k) (w.which k) ≡ Some begun.1.won.frame
  own = first_law w (record { outset = o; bits = begun.0 }) are room idle begun.1 refl

  own_has : has_first w k ≡ true
  own_has = lt-ltb (w.which k) (length (w.frames k)) (some_then (w.frames k) (w.which k) begun.1.won.frame own)

  abbrev first : Gone s setups
  first = record {
    frame = record { outset = o; bits = begun.0 };
    begun = begun.1;
    passed = λ i. [];
    frames = queues;
    handed = (
      decision_quantum w k,
      ap (λ u. head_at (setups k) u (decision_quantum w k)) (unsent_first (setups k)) ∙ hand.ready k begun.1.won.inside own_has ∙ own,
    );
  }

  has_by : (i : ℕ) → i < s.count → 0 < length (setups i).queue → has_first w i ≡ true
  has_by i inside some = elim (cases_Bool (has_first w i)) [
    | inl one ↦ one
    | inr none ↦
        (let x = head_late (setups i) (setups i).queue (wakes_at (setups i) (setups i).queue) some (omega arith) in
        let e = hand.none i (wakes_at (setups i) (setups i).queue) inside none in
        absurd (let h : Some x.frame ≡ None = sym x.is ∙ e in cc))
  ]

  pub first_frames : (most : ℕ) → FirstFramesOfLine setups w most
  first_frames most =
      let x = extending.course begins rest free begun_by next_handed s setups are room chase enough (λ i inside some. idle.may i (has_by i inside some)) first (λ i. refl) most in record {
        bus = record { frames = x.frames; count = x.count; some = x.some; are = x.follow; first = ap (λ f. f.outset) x.first_is; by = x.by };
        ends = elim x.ends [
          | inl at ↦ inl at
          | inr over ↦ inr (λ i inside. over i inside ∙ length-map (setups i).queue (λ q. q.frame))
        ];
      }
