-- Stations whose clocks are looked at from later quanta on are as near to each other, and have as much room.
use Rattle.std.proofs.Common.{ℕ}
use Rattle.wl_buses.specs.OneFrame.Acknowledged.{most_overrun}
use Rattle.wl_buses.specs.OneFrame.Stations.{AreStations, HaveRoom, Stations}
use Rattle.wl_buses.specs.NextFrames.Frames.{HasRoomForAll}
use Rattle.wl_silence.specs.Restarts.{stations_since}

module _ (s : Stations) (at : ℕ → ℕ) where
  pub are_since : AreStations s → AreStations (stations_since s at)
  are_since are = record {
    line = record {
      steady = λ i less. (let h = are.line.steady i less in record { divides = h.divides; not_fast = h.not_fast });
      book = are.line.book;
      later = are.line.later;
      detours = are.line.detours;
    };
    ways = record { there_and_back = are.ways.there_and_back; over = are.ways.over; straight = are.ways.straight };
  }

  pub have_since : HaveRoom s → HaveRoom (stations_since s at)
  have_since have = record {
    early_fits = have.early_fits;
    samples = record { late_fits = have.samples.late_fits; is_there = have.samples.is_there; loops = have.samples.loops; not_early = have.samples.not_early };
  }

  pub room_since : (chase : ℕ → ℕ) → HasRoomForAll s chase → HasRoomForAll (stations_since s at) chase
  unfolding most_overrun
  room_since chase room w less may =
      let r = room w less may in (
        record {
          catch = r.0.catch;
          room = record { late_fits = r.0.room.late_fits; is_there = r.0.room.is_there; loops = r.0.room.loops; not_early = r.0.room.not_early };
        },
        r.1,
      )
