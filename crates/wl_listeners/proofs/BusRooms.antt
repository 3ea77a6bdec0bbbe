-- A part of a bus has the room of the whole: what gathers at a node, and what an edge leaves, is at most that of the same node of the whole.
use Rattle.std.proofs.Common.{◌≡◌, ℕ, suc, ◌+◌, ◌-◌, ◌*◌, ◌<◌, ◌≤◌, ◌==◌, ◌∙◌, not, Bool, true, false, cond, refl, ap, sym, arith}
use Rattle.std.proofs.lemmas.Bool.{eq-eqb, eqb-true}
use Rattle.wl_topology.specs.Driven.{any_below}
use Rattle.wl_bound.specs.Families.{Bus}
use Rattle.wl_bound.specs.Terms.{drift, jump, look, sends_third}
use Rattle.wl_bound.specs.Rooms.{beyond_jump, left_over}
use Rattle.wl_buses.specs.OneFrame.Answers.{HasRoomToAnswer, gathered}
use Rattle.wl_buses.specs.FrameEnd.Again.{LeavesRoomToRest}
use Rattle.wl_buses.specs.OneListener.Muted.{LeavesRoomToListen}
use Rattle.wl_listeners.specs.BusParts.{AreNodesOf, LeavesRoomToHear, bus_part}
use Rattle.wl_listeners.proofs.BusParts.{apart_there, drift_same, jump_same, look_same, over, pick_le, same_test, some_third}

-- a tick more at most than what is left, if something is
left_by : (b c : Bool) (x y t : ℕ) → (c ≡ true → b ≡ true) → x ≤ y → cond b 0 (x + t) ≤ cond c 0 (y + t)
left_by true c x y t e less = omega arith
left_by false true x y t e less = absurd (let f = e refl in cc)
left_by false false x y t e less = omega arith

left_le : (x y t : ℕ) → x ≤ y → cond (x == 0) 0 (x + t) ≤ cond (y == 0) 0 (y + t)
left_le x y t less = left_by (x == 0) (y == 0) x y t (λ e. (let none = eqb-true y 0 e in eq-eqb x 0 (omega arith))) less

module _ (whole : Bus) (at : ℕ → ℕ) (n : ℕ) (chase : ℕ → ℕ) (is : AreNodesOf whole at n) where
  abbrev part : Bus
  part = bus_part whole at n

  abbrev chase_here : ℕ → ℕ
  chase_here k = chase (at k)

  gathered_le : (i k : ℕ) → i < n → k < n → gathered part chase_here i k ≤ gathered whole chase (at i) (at k)
  unfolding drift jump
  gathered_le i k ni nk =
      pick_le (any_below n (sends_third part i k)) (any_below whole.nodes (sends_third whole (at i) (at k))) _ _ (some_third whole at n is i k ni nk) (omega arith)

  beyond_le : (i : ℕ) → i < n → beyond_jump part (gathered part chase_here) i ≤ beyond_jump whole (gathered whole chase) (at i)
  unfolding beyond_jump
  beyond_le i ni =
      over whole at n is (λ k. not (k == i)) (λ k. not (k == at i))
      (λ k. 10 * drift part i k + look part k + gathered part chase_here i k - jump part i)
      (λ k. 10 * drift whole (at i) k + look whole k + gathered whole chase (at i) k - jump whole (at i))
      (λ k nk e. ap not (sym (same_test whole at n is k i nk ni)) ∙ e)
      (λ k nk. (let d = drift_same whole at n is i k in let l = look_same whole at n is k in let j = jump_same whole at n is i in
      let g = gathered_le i k ni nk in omega arith))

  left_over_le : (i : ℕ) → i < n → left_over part (gathered part chase_here) i ≤ left_over whole (gathered whole chase) (at i)
  unfolding left_over
  left_over_le i ni = left_le (beyond_jump part (gathered part chase_here) i) (beyond_jump whole (gathered whole chase) (at i)) whole.tick (beyond_le i ni)

  same_catch : (c k w : ℕ)
      → whole.delay (at k) (at w) + whole.delay (at w) (at k) + look whole (at k) + (whole.longest (at w) - whole.delay (at w) (at w))
      ≤ suc c * (jump whole (at k) - 10 * drift whole (at w) (at k)) + whole.shortest (at k)
      → whole.delay (at k) (at w) + whole.delay (at w) (at k) + look part k + (whole.longest (at w) - whole.delay (at w) (at w))
      ≤ suc c * (jump part k - 10 * drift part w k) + whole.shortest (at k)
  unfolding look jump drift
  same_catch c k w h = h

  pub answers : HasRoomToAnswer whole chase → HasRoomToAnswer part chase_here
  answers has = record {
    catches = λ k w nk nw apart sends.
        (let h = has.catches (at k) (at w) (is.inside k nk) (is.inside w nw) (apart_there whole at n is k w nk nw apart) sends in
        same_catch (chase (at k)) k w h);
    drift_fits_both = λ i k ni nk apart.
        (let h = has.drift_fits_both (at i) (at k) (is.inside i ni) (is.inside k nk) (apart_there whole at n is i k ni nk apart) in
        let d = drift_same whole at n is k i in let j = jump_same whole at n is i in omega arith);
    bit_is_there_at_sample = λ i k ni nk apart.
        (let h = has.bit_is_there_at_sample (at i) (at k) (is.inside i ni) (is.inside k nk) (apart_there whole at n is i k ni nk apart) in
        let l = look_same whole at n is i in let g = gathered_le k i nk ni in let o = left_over_le k nk in let d = drift_same whole at n is k i in omega arith);
    loop_is_there = λ i ni. has.loop_is_there (at i) (is.inside i ni);
    no_bit_too_early = λ i k ni nk apart.
        (let h = has.no_bit_too_early (at i) (at k) (is.inside i ni) (is.inside k nk) (apart_there whole at n is i k ni nk apart) in
        let l = look_same whole at n is k in let g = gathered_le i k ni nk in let o = left_over_le i ni in let d = drift_same whole at n is i k in omega arith);
  }

  pub rests : LeavesRoomToRest whole chase → LeavesRoomToRest part chase_here
  rests leaves i k ni nk apart =
      (let h = leaves (at i) (at k) (is.inside i ni) (is.inside k nk) (apart_there whole at n is i k ni nk apart) in
      let l = look_same whole at n is k in let g = gathered_le i k ni nk in let o = left_over_le i ni in let d = drift_same whole at n is i k in omega arith)

  pub listens : (i : ℕ) → i < n → LeavesRoomToHear whole chase (at i) → LeavesRoomToListen part chase_here i
  listens i ni leaves k less =
      (let nk : k < n = omega arith in
      let h = leaves (at k) (is.inside k nk) (apart_there whole at n is k i nk ni (λ e. (omega arith))) in
      let l = look_same whole at n is i in let g = gathered_le k i nk ni in let o = left_over_le k nk in let d = drift_same whole at n is k i in omega arith)
