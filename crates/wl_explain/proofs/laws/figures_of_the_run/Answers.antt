-- Before the end the simulation has run the quanta that begin before it, and those are few.
use Rattle.std.proofs.Common.{◌∙◌, ◌⊎◌, ap, inl, inr, arith, ℕ, zero, suc, ◌+◌, ◌<◌, ◌≤◌, max}
use Rattle.std.proofs.Math.Nat.{min-eq_left}
use Rattle.wl_clock.specs.Timing.{Timing, IsTiming, tick_of}
use Rattle.wl_plan.specs.Limits.{most_quanta}
use Rattle.wl_plan.specs.Line.{Line}
use Rattle.wl_plan.specs.PlanLine.{line_of, no_setup, setup_at}
use Rattle.wl_plan.specs.Simulation.{ran}
use Rattle.wl_explain.proofs.Means.{counted_below}
use Rattle.wl_explain.proofs.laws.figures_of_the_run.Goals as goal

either : {A : Type 0} → A ⊎ A → A
either (inl a) = a
either (inr a) = a

-- where the last of the first r is few, so is r
few : (q : ℕ → ℕ) (t most r : ℕ) → ((j : ℕ) → j < r → q j < t) → ((j : ℕ) → q j < t → j < most) → r ≤ most
few q t most zero least most_of = omega arith
few q t most (suc r) least most_of = (let h = most_of r (least r (omega arith)) in omega (arith, h))

-- where each is at its place or later, those below t are at most t
near : (q : ℕ → ℕ) (t r : ℕ) → ((j : ℕ) → j ≤ q j) → ((j : ℕ) → j < r → q j < t) → r ≤ t
near q t zero low least = omega arith
near q t (suc r) low least = (let h = least r (omega arith) in let k = low r in omega (arith, h, k))

pub returns : goal.returns
returns c plan i checked inside =
    let l : Line = line_of plan in
    let t : Timing = (setup_at plan i).clock in
    let held : IsTiming t = checked.clocks i no_setup inside in
    let sound = c.checked_is_sound.ensures plan checked in
    let laws = c.simulation_laws.ensures in
    let ticks = c.ticks_increase.ensures in
    let r : ℕ = ran l i plan.end in
    let least = laws.ran_inside l i plan.end sound.causal inside in
    let reached : plan.end ≤ tick_of t r = either (laws.ran_all l i plan.end sound.causal inside) in
    let low : (j : ℕ) → j ≤ tick_of t j = λ j. (let h = ticks.low t held 0 j in let same = ap (tick_of t) {x = 0 + j} {y = j} (omega arith) in omega (arith, h, same)) in
    let e = counted_below (tick_of t) (ticks.later t held) plan.end most_quanta r reached least (near (tick_of t) plan.end r low least) in
    ap (λ n. max n 1) (e ∙ min-eq_left (few (tick_of t) plan.end most_quanta r least (λ j. sound.few_quanta i j inside)))
