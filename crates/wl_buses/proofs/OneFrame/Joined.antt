-- A station that joins a start of frame sends its frame from the bit after that on.
use Rattle.std.proofs.Common.{◌≡◌, ◌∙◌, refl, sym, ap, ℕ, suc, ◌<◌, ◌≤◌, true, false, Some, None, arith}
use Rattle.std.specs.Prelude.{slice_get}
use Rattle.wl_frame.specs.Grammar.{Content}
use Rattle.wl_machine.specs.Frames.{stuffed_end}
use Rattle.wl_buses.specs.OneFrame.Stations.{AreStations, HaveRoom, Stations}
use Rattle.wl_buses.specs.OneFrame.Expected.{IsOutset, Outset, expected_bits, past_at}
use Rattle.wl_buses.specs.OneFrame.Joins.{JoinsWith}
use Rattle.wl_buses.specs.OneFrame.Machines.{bus_levels}
use Rattle.wl_buses.proofs.OneFrame.Expecting.{drives_are}
use Rattle.wl_buses.proofs.OneFrame.Ideal.{joined_at}
use Rattle.wl_buses.proofs.OneFrame.Machines.{FindNoErrors, LeastWins, JoinsOn, SendStuffed, SixOrFront, StayInStep, TenHaveEdge}
use Rattle.wl_machine.specs.Stretch.Sort.{Framing}
use Rattle.wl_machine.specs.Frames.{frame_role}
use Rattle.wl_machine.specs.States.{stretch_by}
use Rattle.wl_wire.proofs.Callers.{some_same}

pub joins_with : StayInStep → FindNoErrors → LeastWins → SendStuffed → SixOrFront → TenHaveEdge → (s : Stations) (o : Outset) (length : ℕ) → AreStations s → HaveRoom s → IsOutset s o → 0 < length
    → ((n : ℕ) → n < length → stuffed_end (bus_levels s (expected_bits s o) n) ≡ None) → (k : ℕ) → k < s.count → o.start.joins k ≡ true → (frame : Content) × JoinsWith s o length k frame
joins_with steps errors winner stuffed six ten s o length are room is some valid k inside joins =
    let at : (n : ℕ) → n < length → JoinsOn s (expected_bits s o) o.frames (past_at s o) o.handed n k =
    λ n less. joined_at steps errors winner stuffed six ten s o is (expected_bits s o) (drives_are steps errors winner stuffed six ten s are room o is) (λ j. refl) n k (valid n less) inside joins in
    let first = at 0 some in
    let one : (n : ℕ) (less : n < length) → (at n less).frame ≡ first.frame = λ n less. some_same (at n less).frame first.frame (sym (at n less).handed ∙ first.handed) in (
      first.frame,
      record {
        handed = first.handed;
        silent = first.silent;
        framing = λ n less. (let x = at n less in x.framing ∙ ap (λ c. stretch_by (Framing (Some c)) (bus_levels s (expected_bits s o) (suc n))) (one n less));
        sends = first.sends;
        role = λ n less e. (let x = at n less in ap (λ c. frame_role (Some c) (bus_levels s (expected_bits s o) (suc n))) (sym (one n less)) ∙ x.role e);
        still = λ n less e. (let x = at n less in x.still (ap (λ c. frame_role (Some c) (bus_levels s (expected_bits s o) (suc n))) (one n less) ∙ e));
      },
    )
