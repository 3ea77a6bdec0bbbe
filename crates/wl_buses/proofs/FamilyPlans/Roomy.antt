-- What a bus with room has for acknowledgements, and to rest.
use Rattle.std.proofs.Common.{◌≡◌, ◌≢◌, refl, ℕ, true, suc, ◌+◌, ◌-◌, ◌*◌, ◌<◌, ◌≤◌, arith}
use Rattle.wl_bound.specs.Families.{Bus}
use Rattle.wl_bound.specs.Terms.{drift, jump, look}
use Rattle.wl_bound.specs.Rooms.{distance, gain, gathering, least_chase, left_over}
use Rattle.wl_bound.specs.RoomLaws.{HasAllRoom}
use Rattle.wl_buses.specs.OneFrame.Answers.{HasRoomToAnswer, gathered}
use Rattle.wl_buses.specs.FrameEnd.Again.{LeavesRoomToRest}

module _ (b : Bus) (has : HasAllRoom b) where
  gathered_is : (i k : ℕ) → gathered b (least_chase b) i k ≡ gathering b i k
  unfolding gathering
  gathered_is i k = refl

  left_is : (i : ℕ) → left_over b (gathered b (least_chase b)) i ≡ left_over b (gathering b) i
  unfolding gathering
  left_is i = refl

  catches : (k w : ℕ) → k < b.nodes → w < b.nodes → k ≢ w → b.sends w ≡ true
      → b.delay k w + b.delay w k + look b k + (b.longest w - b.delay w w) ≤ suc (least_chase b k) * (jump b k - 10 * drift b w k) + b.shortest k
  unfolding distance gain
  catches k w nk nw apart sends = let near = has.catches k w nk nw apart sends in omega arith

  pub answers : HasRoomToAnswer b (least_chase b)
  answers = record {
    catches = catches;
    drift_fits_both = λ i k ni nk apart. has.drift_fits_both i k ni nk apart;
    bit_is_there_at_sample = λ i k ni nk apart. (let e = gathered_is k i in let f = left_is k in let h = has.bit_is_there_at_sample i k ni nk apart in omega arith);
    loop_is_there = λ i ni. has.loop_is_there i ni;
    no_bit_too_early = λ i k ni nk apart. (let e = gathered_is i k in let f = left_is i in let h = has.no_bit_too_early i k ni nk apart in omega arith);
  }

  pub rests : LeavesRoomToRest b (least_chase b)
  rests i k ni nk apart = let e = gathered_is i k in let f = left_is i in let h = has.no_bit_too_early i k ni nk apart in omega arith
