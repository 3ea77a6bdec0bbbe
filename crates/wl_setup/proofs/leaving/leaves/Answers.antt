-- The quantum that the clock answers is the first one at or after the tick.
use Rattle.std.proofs.Common.{◌≡◌, ◌∙◌, ap, sym, ℕ, suc, ◌<◌, ◌≤◌, Option, Some, arith}
use Rattle.std.specs.Prelude.{nat_le}
use Rattle.std.proofs.lemmas.Bool.{le-leb, lt-leb}
use Rattle.wl_level.specs.Places.{first_place}
use Rattle.wl_level.proofs.Callers.{first_found}
use Rattle.wl_clock.specs.Timing.{Timing, tick_of}
use Rattle.wl_setup.specs.Plans.{first_from, until_in}
use Rattle.wl_setup.proofs.leaving.leaves.Goals as goal

first_is : (clock : Timing) (tick k : ℕ) → tick ≤ tick_of clock k → ((j : ℕ) → j < k → tick_of clock j < tick) → k ≤ tick → first_from clock tick ≡ Some k
first_is clock tick k reached least near =
    first_found (λ k. nat_le tick (tick_of clock k)) (suc tick) k (record {
      inside = omega (arith, near);
      passes = le-leb tick (tick_of clock k) reached;
      none_before = λ j less. lt-leb tick (tick_of clock j) (least j less);
    })

pub returns-in-Some : goal.returns-in-Some
returns-in-Some c =
    let e = c.min.ensures in
    let clock = c.args.clock.now in
    let is = c.in-Some.is in
    let first = first_is clock c.min.result c.first_not_before.result c.first_not_before.ensures.reached c.first_not_before.ensures.least c.first_not_before.ensures.near in
    sym first ∙ ap (first_from clock) e ∙ ap (until_in clock) (sym is)
