-- A line is clean since a silence, if its nodes have frames left.
use Rattle.std.proofs.Common.{sym, ℕ, suc, ◌<◌, arith}
use Rattle.wl_node.specs.declared.setup.NodeSetup.{NodeSetup}
use Rattle.wl_plan.specs.Line.{Line}
use Rattle.wl_plan.specs.Simulation.{AreInside}
use Rattle.wl_buses.specs.OneFrame.Stations.{AreStations, HaveRoom, Stations}
use Rattle.wl_buses.specs.FirstFrame.FirstStarts.{Waiting}
use Rattle.wl_buses.specs.NextFrames.Frames.{HasRoomForAll}
use Rattle.wl_buses.specs.CleanLines.Lines.{IsPoweredUp, LineGetsThrough, line_history, waiting_with}
use Rattle.wl_silence.specs.Restarts.{IsUnharmed}
use Rattle.wl_silence.specs.Silences.{HaveFramesLeft, IsCleanSince, IsLineOfSince, IsSilentFor, fresh_line, fresh_setups, fresh_stations, joins}
use Rattle.wl_silence.proofs.Lines.{SilentLaws}
use Rattle.wl_silence.proofs.Moved.{are_since, have_since, room_since}
use Rattle.wl_silence.proofs.PoweredUp.{powered_up}
use Rattle.wl_silence.proofs.Through.{all_same, goes_at, high, late}

-- the law of lines that this rests on
abbrev pub AllGetThroughLaw : Type 0
AllGetThroughLaw = (l : Line) (setups : ℕ → NodeSetup) (w : Waiting) (chase : ℕ → ℕ) → IsPoweredUp l setups w → AreStations w.stations → HaveRoom w.stations → HasRoomForAll w.stations chase → LineGetsThrough l setups w

module _ (laws : SilentLaws) (all : AllGetThroughLaw) (l : Line) (setups : ℕ → NodeSetup) (s : Stations) (from until : ℕ) (first : ℕ → ℕ) (of : IsLineOfSince l setups s from)
    (is : IsSilentFor l setups from until first) (are : AreStations s) (have : HaveRoom s) (chase : ℕ → ℕ) (room : HasRoomForAll s chase) (left : HaveFramesLeft l setups s first) where
  abbrev R : ℕ → NodeSetup
  R = fresh_setups l setups first

  abbrev L : Line
  L = fresh_line l setups first

  abbrev s' : Stations
  s' = fresh_stations l setups first s

  abbrev at : ℕ → ℕ
  at i = joins l setups first i

  through : LineGetsThrough L R (waiting_with R s')
  through = all L R (waiting_with R s') chase (powered_up laws l setups s from until first of is are left) (are_since s at are) (have_since s at have) (room_since s at chase room)

  fine : (i k : ℕ) → i < l.nodes → AreInside L i k → IsUnharmed (line_history L R i k)
  fine i k inside there =
      let counted : i < s'.count = (let e = of.nodes in omega arith) in
      record { counters = through.counters i k counted there; errors = through.fine i k counted there }

  pub clean_since : IsCleanSince l setups s from first
  clean_since = record {
    late = late laws l setups s from until first of is are fine;
    soon = λ i inside. (let h = high laws l setups s from until first of is are fine i inside in omega arith);
    through = through;
    drives = λ i t inside past below. sym (all_same laws l setups s from until first of is are fine (suc t) i t inside (omega arith) below past);
    goes = goes_at laws l setups s from until first of is are fine;
  }
