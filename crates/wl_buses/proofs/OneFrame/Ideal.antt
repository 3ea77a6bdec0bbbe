-- The machines of an opening: what follows from them for each bit, whenever it begins.
use Rattle.std.proofs.Common.{◌≡◌, ◌∙◌, refl, sym, ap, ℕ, zero, suc, ◌+◌, ◌-◌, ◌<◌, ◌≤◌, ◌&&◌, ◌||◌, not, cond, Bool, true, [], ◌∷◌, ◌++◌, Option, Some, None, arith}
use Rattle.std.specs.Prelude.{nat_le}
use Rattle.std.proofs.lemmas.Bool.{le-leb}
use Rattle.wl_level.specs.Levels.{level_of}
use Rattle.wl_topology.specs.Driven.{any_below, driven}
use Rattle.wl_topology.proofs.Callers.{any_same}
use Rattle.wl_segments.specs.declared.SyncRules.TheVariants.{Book}
use Rattle.wl_frame.specs.Grammar.{Content}
use Rattle.wl_machine.specs.Stretch.Input.{Sample}
use Rattle.wl_machine.specs.Frames.{frame_role, stuffed_end}
use Rattle.wl_machine.specs.Judged.{judged, stretch_of}
use Rattle.wl_machine.specs.States.{stretch_by}
use Rattle.wl_machine.specs.Stretch.Sort.{Framing}
use Rattle.wl_phase.specs.Clocks.{Steady, steady_tick}
use Rattle.wl_phase.proofs.Callers.{floor_high, floor_low}
use Rattle.wl_wire.specs.InStep.{is_fine}
use Rattle.wl_wire.specs.Wire.{Handed, sampled}
use Rattle.wl_buses.specs.OneFrame.Stations.{Stations}
use Rattle.wl_buses.specs.OneFrame.Starts.{Start}
use Rattle.wl_buses.specs.OneFrame.OneBit.{IsRight, sampled_at}
use Rattle.wl_buses.specs.OneFrame.Course.{begins_with_edge, bus_bit, has_sent, since_edge, still_sends}
use Rattle.wl_buses.specs.OneFrame.Machines.{AreMachines, GoesByMachines, bus_levels}
use Rattle.wl_buses.specs.OneFrame.Expected.{IsOutset, Outset, past_at, wants}
use Rattle.wl_buses.proofs.OneFrame.Machines.{FindNoErrors, LeastWins, JoinsOn, SendStuffed, SixOrFront, StayInStep, TenHaveEdge, goes, joins_on}

-- a clock of a tick a quantum
abbrev unit : Steady
unit = record { offset = 0; part = 0; num = 1; den = 1 }

unit_tick : (k : ℕ) → steady_tick unit k ≡ k
unit_tick k = let low = floor_low unit k in let high = floor_high unit k (omega arith) in omega arith

module _ (steps : StayInStep) (errors : FindNoErrors) (winner : LeastWins) (stuffed : SendStuffed) (six : SixOrFront) (ten : TenHaveEdge)
    (s : Stations) (o : Outset) (is : IsOutset s o) where
  -- stations with these machines whose bits take one tick, without delays
  abbrev other : Stations
  other = record {
    count = s.count;
    clocks = λ k. unit;
    lengths = λ k. record { prop = 0; ps1 = 0; ps2 = 0; sjw = 0; sync = Book };
    delay = λ i k. 0;
    may_send = λ k. true;
    way = λ k i. 0;
  }

  abbrev others : ℕ → Start
  others n = record { drives = wants s o n; joins = o.start.joins; due = λ k. n; place = λ k. n; from = λ k. n }

  abbrev drove : ℕ → ℕ → Bool
  drove k t = wants s o (t - 1) k

  found_there : (n k t : ℕ) → t ≡ suc n → driven s.count (λ i k. 0) drove k t ≡ any_below s.count (wants s o n)
  found_there n k t e =
      any_same s.count (λ i. nat_le 0 t && drove i (t - 0)) (wants s o n)
      (λ i lt. ap (λ b. b && drove i (t - 0)) (le-leb 0 t (omega arith)) ∙ ap (λ m. wants s o m i) (let f : (t - 0) - 1 ≡ n = omega arith in f))

  right : (n k : ℕ) → IsRight other (others n) drove k
  right n k = found_there n k (sampled_at other (others n) k) (unit_tick (n + 1) ∙ (let e : n + 1 ≡ suc n = omega arith in e))

  machines : (total : ℕ) → AreMachines other others drove o.frames (past_at s o) total
  machines total = record {
    earlier = is.earlier;
    handed = o.handed;
    reached = is.reached;
    begin = is.may;
    joins = is.joins;
    drives = λ n k less lt. refl;
    samples = λ n k less lt. ap (λ b. past_at s o n k ++ Sample (sampled (level_of b) (o.frames k) (o.handed n k)) ∷ []) (sym (right n k));
  }

  module _ (bits : ℕ → Start) (same : (n k : ℕ) → (bits n).drives k ≡ wants s o n k) (joins : (k : ℕ) → (bits 0).joins k ≡ o.start.joins k) where
    pub bus_same : (n : ℕ) → bus_bit other others n ≡ bus_bit s bits n
    bus_same n = any_same s.count (wants s o n) (bits n).drives (λ k lt. sym (same n k))

    levels_same : (n : ℕ) → bus_levels other others n ≡ bus_levels s bits n
    levels_same zero = refl
    levels_same (suc n) = ap (λ v. v ++ level_of (bus_bit other others n) ∷ []) (levels_same n) ∙ ap (λ b. bus_levels s bits n ++ level_of b ∷ []) (bus_same n)

    sent_same : (n k : ℕ) → has_sent others n k ≡ has_sent bits n k
    sent_same zero k = ap (λ b. b || o.start.joins k) (sym (same 0 k)) ∙ ap (λ b. (bits 0).drives k || b) (sym (joins k))
    sent_same (suc n) k = sym (same (suc n) k)

    still_same : (n k : ℕ) → still_sends other others n k ≡ still_sends s bits n k
    still_same zero k = sent_same 0 k
    still_same (suc n) k =
        ap (λ b. b && (has_sent others n k || not (bus_bit other others n))) (still_same n k)
        ∙ ap (λ b. still_sends s bits n k && (b || not (bus_bit other others n))) (sent_same n k)
        ∙ ap (λ b. still_sends s bits n k && (has_sent bits n k || not b)) (bus_same n)

    begins_same : (n : ℕ) → begins_with_edge other others n ≡ begins_with_edge s bits n
    begins_same zero = refl
    begins_same (suc n) = ap (λ b. not b && bus_bit other others (suc n)) (bus_same n) ∙ ap (λ b. not (bus_bit s bits n) && b) (bus_same (suc n))

    since_same : (n : ℕ) → since_edge other others n ≡ since_edge s bits n
    since_same zero = refl
    since_same (suc n) =
        ap (λ b. cond b 0 (suc (since_edge other others n))) (begins_same (suc n)) ∙ ap (λ m. cond (begins_with_edge s bits (suc n)) 0 (suc m)) (since_same n)

    there : (n : ℕ) → stuffed_end (bus_levels s bits n) ≡ None → GoesByMachines other others drove o.frames (past_at s o) n
    there n none =
        goes steps errors winner stuffed six ten other others drove o.frames (past_at s o) (suc n) is.frames (machines (suc n))
        (is.some.0, is.some.1, sym (is.drives is.some.0) ∙ is.some.2) n (omega arith) (λ k lt m below. right m k) (ap stuffed_end (levels_same n) ∙ none)

    pub few : (n : ℕ) → stuffed_end (bus_levels s bits n) ≡ None → since_edge s bits n ≤ 9
    few n none = let f = (there n none).few in let e = since_same n in omega arith

    pub senders : (n k : ℕ) → stuffed_end (bus_levels s bits n) ≡ None → k < s.count → (bits (suc n)).drives k ≡ true → still_sends s bits (suc n) k ≡ true
    senders n k none lt e =
        sym (still_same (suc n) k) ∙ (there n none).senders k lt (λ m below. right m k) (sym (same (suc n) k) ∙ e)

    pub framing : (n k : ℕ) → stuffed_end (bus_levels s bits n) ≡ None → k < s.count
        → (head : Option Content) × (stretch_of (past_at s o (suc n) k) ≡ stretch_by (Framing head) (bus_levels s bits (suc n)))
    framing n k none lt =
        let f = (there n none).framing k lt (λ m below. right m k) in
        (f.0, f.1 ∙ ap (stretch_by (Framing f.0)) (levels_same (suc n)))

    pub fine : (n k : ℕ) (h : Handed) → stuffed_end (bus_levels s bits n) ≡ None → k < s.count
        → is_fine (judged (stretch_of (past_at s o n k)) (sampled (level_of (bus_bit s bits n)) (o.frames k) h)).happened ≡ true
    fine n k h none lt =
        ap (λ b. is_fine (judged (stretch_of (past_at s o n k)) (sampled (level_of b) (o.frames k) h)).happened) (sym (bus_same n)) ∙ (there n none).fine k h lt

    -- who joins the start of frame
    joins_there : (n k : ℕ) → stuffed_end (bus_levels s bits n) ≡ None → k < s.count → o.start.joins k ≡ true → JoinsOn other others o.frames (past_at s o) o.handed n k
    unfolding machines
    joins_there n k none lt e =
        joins_on steps errors winner stuffed six ten other others drove o.frames (past_at s o) (suc n) is.frames (machines (suc n))
        (is.some.0, is.some.1, sym (is.drives is.some.0) ∙ is.some.2) n (omega arith) (λ j inside m below. right m j) (ap stuffed_end (levels_same n) ∙ none) k lt (λ m below. right m k) e

    pub joined_at : (n k : ℕ) → stuffed_end (bus_levels s bits n) ≡ None → k < s.count → o.start.joins k ≡ true → JoinsOn s bits o.frames (past_at s o) o.handed n k
    joined_at n k none lt e =
        let x = joins_there n k none lt e in
        record {
          frame = x.frame;
          handed = x.handed;
          silent = same 0 k ∙ x.silent;
          framing = x.framing ∙ ap (stretch_by (Framing (Some x.frame))) (levels_same (suc n));
          sends = sym (still_same 1 k) ∙ x.sends;
          role = λ sends. ap (frame_role (Some x.frame)) (sym (levels_same (suc n))) ∙ x.role (still_same (suc n) k ∙ sends);
          still = λ role. sym (still_same (suc n) k) ∙ x.still (ap (frame_role (Some x.frame)) (levels_same (suc n)) ∙ role);
        }
