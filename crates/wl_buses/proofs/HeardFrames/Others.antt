-- Stations that have room with a listener after the last have room without it.
use Rattle.std.proofs.Common.{ℕ, ◌*◌, ◌<◌, ◌≤◌, ◌≡◌, cond, max, not, true, arith}
use Rattle.std.specs.Prelude.{◌==◌}
use Rattle.wl_bound.specs.Terms.{greatest}
use Rattle.std.proofs.Math.Nat.{mul-le-mul_right}
use Rattle.wl_buses.specs.OneFrame.Acknowledged.{chased_way, most_overrun, overrun}
use Rattle.wl_buses.specs.OneFrame.Stations.{AreStations, HaveRoom, Stations, shared_tick}
use Rattle.wl_buses.specs.FrameEnd.Again.{HasRoomToRest}
use Rattle.wl_buses.specs.FrameEnd.Asked.{CanBeAnswered}
use Rattle.wl_buses.specs.HeardFrames.Room.{HasRoomBeside}
use Rattle.wl_buses.specs.NextFrames.Frames.{HasRoomForAll}
use Rattle.wl_buses.specs.OneListener.Beside.{with_listener}
use Rattle.wl_buses.proofs.HeardFrames.OneMore.{without_last}

module _ (s : Stations) (chase : ℕ → ℕ) (has : HasRoomBeside s chase) where
  abbrev x : Stations
  x = with_listener s

  pub are_others : AreStations s
  are_others = without_last s has.are

  pub room_others : HaveRoom s
  room_others = record {
    early_fits = λ i k inside there apart own. has.room.early_fits i k (omega arith) (omega arith) apart own;
    samples = record {
      late_fits = λ i k inside there apart own. has.room.samples.late_fits i k (omega arith) (omega arith) apart own;
      is_there = λ i k inside there apart own. has.room.samples.is_there i k (omega arith) (omega arith) apart own;
      loops = λ i inside own. has.room.samples.loops i (omega arith) own;
      not_early = λ i k inside there apart own. has.room.samples.not_early i k (omega arith) (omega arith) apart own;
    };
  }

  module _ (w : ℕ) (wins : w < s.count) (own : s.may_send w ≡ true) where
    fewer : (i : ℕ) → most_overrun s w chase i ≤ most_overrun x w chase i
    unfolding most_overrun
    fewer i = low (greatest s.count (λ k. not (k == i)) (overrun s w chase i)) (cond (not (s.count == i)) (overrun s w chase i s.count) 0)
      where
        low : (a b : ℕ) → a ≤ max a b
        low a b = omega arith

    shorter : (k i : ℕ) → chased_way s w chase k i ≤ chased_way x w chase k i
    shorter k i =
        (let few = fewer i in
        let times : most_overrun s w chase i * shared_tick s i k ≤ most_overrun x w chase i * shared_tick s i k = mul-le-mul_right (shared_tick s i k) few in
        omega arith)

    answer : CanBeAnswered s w chase
    answer =
        (let a = has.answers w wins own in
        record {
          catch = λ k inside apart. a.catch k (omega arith) apart;
          room = record {
            late_fits = λ i k inside there apart may. a.room.late_fits i k (omega arith) (omega arith) apart may;
            is_there = λ i k inside there apart may. (let h = a.room.is_there i k (omega arith) (omega arith) apart may in let few = shorter i k in omega arith);
            loops = λ i inside may. a.room.loops i (omega arith) may;
            not_early = λ i k inside there apart may. (let h = a.room.not_early i k (omega arith) (omega arith) apart may in let few = shorter k i in omega arith);
          };
        })

    rest : HasRoomToRest s (chased_way s w chase)
    rest i k inside there apart = (let h = has.rests w wins own i k (omega arith) (omega arith) apart in let few = shorter k i in omega arith)

  pub room_for_all : HasRoomForAll s chase
  room_for_all w wins own = (answer w wins own, rest w wins own)
