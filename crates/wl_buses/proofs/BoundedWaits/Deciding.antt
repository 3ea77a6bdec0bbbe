-- A bus that passes the test has room that nobody decides twice.
use Rattle.std.proofs.Common.{◌≡◌, refl, sym, ℕ, true, false, not, ◌&&◌, arith}
use Rattle.std.specs.Prelude.{◌==◌}
use Rattle.std.proofs.lemmas.Bool.{eqb-true, leb-true, not-true}
use Rattle.wl_bound.specs.Decides.{comes_late, decides_twice, is_there, leaves_room_to_decide}
use Rattle.wl_bound.specs.Families.{Bus, Buses}
use Rattle.wl_bound.specs.Rooms.{gathering, least_chase, left_over, plain_bus}
use Rattle.wl_buses.specs.OneFrame.Answers.{gathered}
use Rattle.wl_buses.specs.TakesPart.Decisions.{LeavesRoomToDecide}
use Rattle.wl_buses.proofs.BothProofs.Small.{none_below}

gathered_is : (b : Bus) (i k : ℕ) → gathered b (least_chase b) i k ≡ gathering b i k
unfolding gathering
gathered_is b i k = refl

left_is : (b : Bus) (i : ℕ) → left_over b (gathered b (least_chase b)) i ≡ left_over b (gathering b) i
unfolding gathering
left_is b i = refl

pub room_to_decide : (f : Buses) → leaves_room_to_decide f ≡ true → LeavesRoomToDecide (plain_bus f) (least_chase (plain_bus f))
room_to_decide f leaves i k ni nk apart =
    let b = plain_bus f in
    let node = none_below b.nodes (decides_twice b) (not-true _ leaves) i ni in
    let pair = none_below b.nodes (comes_late b i) node k nk in
    let there : is_there b i k ≡ true = other (k == i) (is_there b i k) (λ e. apart (sym (eqb-true k i e))) pair in
    let enough = leb-true _ _ there in
    let e = gathered_is b k i in
    let f = left_is b k in
    omega arith
  where
    other : (x y : _) → (x ≡ true → ⊥) → (not x && not y) ≡ false → y ≡ true
    other true y h e = absurd (h refl)
    other false true h e = refl
    other false false h e = cc
