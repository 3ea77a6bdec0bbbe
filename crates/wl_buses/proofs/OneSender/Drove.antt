-- What all nodes of a bus drive: up to the tick of a rest what they drove, and from then on what is given.
use Rattle.std.proofs.Common.{◌≡◌, ◌∙◌, inl, inr, refl, sym, ap, ℕ, ◌-◌, ◌<◌, ◌≤◌, Bool, false, cond, ◌||◌, arith}
use Rattle.std.specs.Prelude.{nat_lt}
use Rattle.std.proofs.lemmas.Bool.{both_ways, cases_lt, false_from_ne_true, le-ltb, lt-ltb}
use Rattle.wl_level.specs.declared.Level.{Level}
use Rattle.wl_level.specs.declared.Level.TheVariants.{Recessive}
use Rattle.wl_level.specs.Levels.{level_of}
use Rattle.wl_topology.specs.Driven.{DrivenLaws, driven}
use Rattle.wl_plan.specs.Line.{Line}
use Rattle.wl_plan.specs.Simulation.{level}
use Rattle.wl_plan.specs.SimulationLaws.{SimulationLaws}
use Rattle.wl_buses.specs.BothProofs.Levels.{levels_before}
use Rattle.wl_buses.specs.BothProofs.Expected.{levels_found}
use Rattle.wl_buses.specs.OneSender.OneSender.{SenderBus, IsBus}
use Rattle.wl_buses.proofs.BothProofs.Expecting.{levels_same}
use Rattle.wl_buses.proofs.OneSender.Nodes.{ClockGoes}
use Rattle.wl_buses.proofs.OneSender.Resting as resting
use Rattle.wl_buses.proofs.OneSender.Resting.{Rests, RestsAt}

module _ (b : SenderBus) (t : ℕ) (next : ℕ → ℕ → Bool) where
  abbrev l : Line
  l = b.line

  pub drove : ℕ → ℕ → Bool
  drove i u = cond (nat_lt u t) (level l i u) (next i u)

  pub drove_old : (i u : ℕ) → u < t → drove i u ≡ level l i u
  unfolding drove
  drove_old i u less = rw (lt-ltb u t less) refl

  pub drove_new : (i u : ℕ) → t ≤ u → drove i u ≡ next i u
  unfolding drove
  drove_new i u late = rw (le-ltb u t late) refl

  abbrev lv : ℕ → ℕ → Level
  lv i = levels_found l drove i

  -- what a node finds
  module _ (clocks : ClockGoes) (simulation : SimulationLaws) (lines : DrivenLaws) (is : IsBus b) (rest : Rests clocks b is t) (i : ℕ) (inside : i < l.nodes) where
    abbrev at_rest : RestsAt clocks b is t i inside
    at_rest = rest.node i inside

    abbrev actual : ℕ → ℕ → Level
    actual = resting.actual clocks b is

    -- before then it finds what it found
    pub level_old : (k : ℕ) → k < at_rest.start → lv i k ≡ actual i k
    level_old k less =
        ap level_of (simulation.found_same l drove (level l) i (l.instant i k) (λ j inside_j come.
        (let e = is.ticks i k inside in
        let before = at_rest.before k less in
        drove_old j (l.instant i k - l.delay j i) (omega arith))))

    pub lists_old : (k : ℕ) → k ≤ at_rest.start → levels_before (actual i) k ≡ levels_before (lv i) k
    lists_old k few = levels_same (actual i) (lv i) k (λ n less. sym (level_old n (omega arith)))

    -- and then nothing, if nothing that is given reaches it
    pub silent_then : (k : ℕ) → at_rest.start ≤ k
        → ((j : ℕ) → j < l.nodes → l.delay j i ≤ l.instant i k → t ≤ l.instant i k - l.delay j i → next j (l.instant i k - l.delay j i) ≡ false) → lv i k ≡ Recessive
    silent_then k late unsent =
        ap level_of (ap (λ d. d || l.disturbed i (l.instant i k)) none ∙ is.undisturbed i (l.instant i k) inside)
      where
        each : (j : ℕ) → j < l.nodes → l.delay j i ≤ l.instant i k → drove j (l.instant i k - l.delay j i) ≡ false
        each j inside_j come =
            let e = is.ticks i k inside in
            let after = at_rest.after in
            let rise = resting.up clocks b is i inside at_rest.start k late in
            elim (cases_lt (l.instant i k - l.delay j i) t) [
              | inl early ↦ drove_old j (l.instant i k - l.delay j i) early ∙ rest.quiet j i (l.instant i k - l.delay j i) inside_j inside early (omega arith)
              | inr from_then ↦ drove_new j (l.instant i k - l.delay j i) from_then ∙ unsent j inside_j come from_then
            ]

        none : driven l.nodes l.delay drove i (l.instant i k) ≡ false
        none = false_from_ne_true (driven l.nodes l.delay drove i (l.instant i k)) (λ e.
            (let by = lines.dominant_by l.nodes l.delay drove i (l.instant i k) e in
            both_ways (drove by.0 (l.instant i k - l.delay by.0 i)) (each by.0 by.1 by.2) by.3))
