-- A station with room beside others may listen to all their frames.
use Rattle.std.proofs.Common.{◌≡◌, ◌≢◌, ◌∙◌, refl, ap, cond, ℕ, suc, ◌+◌, ◌<◌, ◌&&◌, not, true, arith}
use Rattle.std.specs.Prelude.{◌==◌}
use Rattle.std.proofs.lemmas.Bool.{eq-eqb, ne_eqb}
use Rattle.wl_segments.specs.Lengths.{bit_quanta}
use Rattle.wl_phase.specs.Clocks.{steady_tick}
use Rattle.wl_buses.specs.OneFrame.Expected.{expected_bits, most}
use Rattle.wl_buses.specs.OneFrame.Stations.{Stations}
use Rattle.wl_buses.specs.FirstFrame.FirstStarts.{AreIdle, Waiting}
use Rattle.wl_buses.specs.HeardFrames.Joined.{IsFarFrom}
use Rattle.wl_buses.specs.HeardFrames.Room.{HasRoomBeside, MayJoinMuted}
use Rattle.wl_buses.specs.NextFrames.Frames.{Frame}
use Rattle.wl_buses.specs.OneListener.Frames.{waiting_with}
use Rattle.wl_buses.specs.OneListener.Muted.{farther, muted}
use Rattle.wl_buses.proofs.OneFrame.Settling.{most_from}
use Rattle.wl_buses.proofs.OneListener.Muted.{are_muted, may_listen, rest_there, room_muted}

module _ (s : Stations) (w : Waiting) (frames : ℕ → Frame) (count : ℕ) (chase : ℕ → ℕ) (has : HasRoomBeside s chase) (idle : AreIdle (waiting_with s w)) where
  quiet : (k : ℕ) → s.may_send k ≡ true → k ≢ s.count
  quiet k own e = (let same = ap s.may_send e in let mute = has.mute in cc)

  -- by when a bit of station k after the CRC delimiter of frame n reaches station i
  abbrev reach : (n i k : ℕ) → ℕ
  reach n i k = steady_tick (s.clocks k) ((expected_bits s (frames n).outset (frames n).bits).place k + bit_quanta (s.lengths k)) + s.delay k i

  far : ℕ
  far = suc (most count (λ n. most s.count (λ i. most s.count (λ k. reach n i k))))

  reach_less : (n i k : ℕ) → n < count → i < s.count → k < s.count → reach n i k < far
  unfolding far
  reach_less n i k less inside there =
      let one = most_from s.count (λ j. reach n i j) k there in
      let two = most_from s.count (λ j. most s.count (λ h. reach n j h)) i inside in
      let three = most_from count (λ g. most s.count (λ j. most s.count (λ h. reach g j h))) n less in
      omega arith

  near : (i k : ℕ) → i < s.count → farther s far i k ≡ 0
  near i k inside = ap (λ b. cond (b && not (k == s.count)) far 0) (ne_eqb i s.count (λ e. omega arith))

  away : (k : ℕ) → k < s.count → farther s far s.count k ≡ far
  away k there = ap (λ b. cond (b && not (k == s.count)) far 0) (eq-eqb s.count s.count refl) ∙ ap (λ b. cond (not b) far 0) (ne_eqb k s.count (λ e. omega arith))

  far_from : (n : ℕ) → n < count → IsFarFrom s (muted s far).delay (frames n)
  far_from n less i k inside there = (let h = reach_less n i k less inside there in let e = away i inside in omega arith)

  idle_muted : AreIdle (waiting_with (muted s far) w)
  idle_muted = record {
    frames = idle.frames;
    inside = idle.inside;
    may = idle.may;
    some = idle.some;
    later = idle.later;
    idle = λ i k inside apart own. (let h = idle.idle i k inside apart own in omega arith);
  }

  pub may_join : (at : ℕ) × MayJoinMuted s at w frames count chase
  may_join = (
    far,
    record {
      delays = λ i k inside there. (let e = near i k inside in omega arith);
      two = has.two;
      mute = has.mute;
      are = are_muted s far has.are has.room quiet;
      room = room_muted s far has.are has.room quiet;
      idle = idle_muted;
      can = λ v wins own. (may_listen s far has.are has.room quiet has.two v wins chase (has.answers v wins own) (has.eleven v wins own)).can;
      rest = λ v wins own. rest_there s far has.are has.room quiet has.two v wins chase (has.answers v wins own) (has.eleven v wins own) (has.rests v wins own);
      far = far_from;
    },
  )
