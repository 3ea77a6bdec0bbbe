-- A bus at rest whose sender has nothing to send up to the end.
use Rattle.std.proofs.Common.{◌≡◌, ◌∙◌, inl, inr, refl, sym, ap, subst, ℕ, suc, ◌+◌, ◌*◌, ◌<◌, ◌≤◌, [], Bool, false, None, arith}
use Rattle.std.proofs.lemmas.Bool.{cases_lt, cases_eq}
use Rattle.std.proofs.Math.Bridge.{le_prop}
use Rattle.wl_level.specs.declared.Level.{Level}
use Rattle.wl_level.specs.declared.Level.TheVariants.{Recessive}
use Rattle.wl_level.specs.Levels.{is_dominant}
use Rattle.wl_segments.specs.Lengths.{sample_at, bit_quanta}
use Rattle.wl_buses.specs.BothProofs.Queues.{head_at}
use Rattle.wl_buses.proofs.BothProofs.Heads.{head_none}
use Rattle.wl_phase.specs.Clocks.{steady_tick}
use Rattle.wl_plan.specs.Line.{Line}
use Rattle.wl_plan.specs.Simulation.{level, seen, AreInside}
use Rattle.wl_buses.specs.BothProofs.Levels.{levels_before}
use Rattle.wl_buses.specs.BothProofs.Expected.{IsExpected, levels_found}
use Rattle.wl_buses.specs.OneSender.OneSender.{SenderBus, IsBus, IsListener, lengths_of}
use Rattle.wl_buses.proofs.BothProofs.Expecting.{level_first, level_then, seen_is}
use Rattle.wl_buses.proofs.OneSender.Drove as all_drove
use Rattle.wl_buses.proofs.OneSender.Planned.{Laws}
use Rattle.wl_buses.proofs.OneSender.Resting as resting
use Rattle.wl_buses.proofs.OneSender.Resting.{Rests, RestsAt}
use Rattle.wl_buses.proofs.OneSender.Silence.{IsSilentAt, left_none, left_of, silent_at, silent_same}

module _ (laws : Laws) (b : SenderBus) (is : IsBus b) (t : ℕ) (rest : Rests laws.clocks b is t) (alone : (j : ℕ) → IsListener b j → (b.setups j).queue ≡ [])
    (never : (c : ℕ) → 10 ≤ c → steady_tick (b.clocks b.sender) ((rest.node b.sender is.sender).base + c * bit_quanta (lengths_of b b.sender) + sample_at (lengths_of b b.sender)) < b.line.stop
    → head_at (b.setups b.sender) (left_of (b.setups b.sender) ((rest.node b.sender is.sender).waits.passed 10))
    ((rest.node b.sender is.sender).base + c * bit_quanta (lengths_of b b.sender) + sample_at (lengths_of b b.sender)) ≡ None) where
  abbrev l : Line
  l = b.line

  abbrev a : ℕ
  a = b.sender

  abbrev S : ℕ → ℕ
  S i = sample_at (lengths_of b i)

  abbrev B : ℕ → ℕ
  B i = bit_quanta (lengths_of b i)

  abbrev tick : ℕ → ℕ → ℕ
  tick i k = steady_tick (b.clocks i) k

  abbrev up : (i : ℕ) → i < l.nodes → (k n : ℕ) → k ≤ n → tick i k ≤ tick i n
  up = resting.up laws.clocks b is

  abbrev none_driven : ℕ → ℕ → Bool
  none_driven i u = false

  abbrev pub drove : ℕ → ℕ → Bool
  drove = all_drove.drove b t none_driven

  abbrev drove_old : (i u : ℕ) → u < t → drove i u ≡ level l i u
  drove_old = all_drove.drove_old b t none_driven

  abbrev drove_new : (i u : ℕ) → t ≤ u → drove i u ≡ false
  drove_new = all_drove.drove_new b t none_driven

  abbrev pub lv : ℕ → ℕ → Level
  lv i = levels_found l drove i

  module _ (i : ℕ) (inside : i < l.nodes) where
    abbrev at_rest : RestsAt laws.clocks b is t i inside
    at_rest = rest.node i inside

    abbrev lists_old : (k : ℕ) → k ≤ at_rest.start → levels_before (resting.actual laws.clocks b is i) k ≡ levels_before (lv i) k
    lists_old = all_drove.lists_old b t none_driven laws.clocks laws.simulation laws.lines is rest i inside

    silent : (k : ℕ) → at_rest.start ≤ k → lv i k ≡ Recessive
    silent k late = all_drove.silent_then b t none_driven laws.clocks laws.simulation laws.lines is rest i inside k late (λ j inside_j come from_then. refl)

    unready : (k : ℕ) → ((n : ℕ) → n < k → tick i n < l.stop) → (c : ℕ) → 10 ≤ c → at_rest.base + c * B i + S i < k
        → head_at (b.setups i) (left_of (b.setups i) (at_rest.waits.passed 10)) (at_rest.base + c * B i + S i) ≡ None
    unready k soon c many less = elim (cases_eq i a) [
      | inl here ↦
          subst (λ n. (h : n < l.nodes) → tick n ((rest.node n h).base + c * B n + S n) < l.stop
          → head_at (b.setups n) (left_of (b.setups n) ((rest.node n h).waits.passed 10)) ((rest.node n h).base + c * B n + S n) ≡ None) (sym here)
          (λ h. subst (λ h. tick a ((rest.node a h).base + c * B a + S a) < l.stop
          → head_at (b.setups a) (left_of (b.setups a) ((rest.node a h).waits.passed 10)) ((rest.node a h).base + c * B a + S a) ≡ None) (le_prop is.sender h) (never c many)) inside
          (soon (at_rest.base + c * B i + S i) less)
      | inr apart ↦ ap (λ v. head_at (b.setups i) v (at_rest.base + c * B i + S i)) (left_none (b.setups i) (at_rest.waits.passed 10) (alone i (inside, apart))) ∙ head_none (b.setups i) (at_rest.base + c * B i + S i)
    ]

    pub still : (k : ℕ) → at_rest.start ≤ k → ((n : ℕ) → n < k → tick i n < l.stop)
        → IsSilentAt laws.clocks (b.setups i) (is.book i inside) (lv i) at_rest.base at_rest.waits k
    still k late soon =
        silent_at laws.clocks (b.setups i) (is.book i inside) (lv i) at_rest.base at_rest.waits at_rest.start k
        (λ n begun less. silent n begun) (λ c many begun less. unready k soon c many less)
        (silent_same laws.clocks (b.setups i) (is.book i inside) (resting.actual laws.clocks b is i) (lv i) at_rest.base at_rest.waits at_rest.start
        (lists_old at_rest.start (omega arith)) at_rest.state) k late (omega arith)

  expected : IsExpected l (λ i. l.stop) drove
  expected = record {
    near = λ i j in_ jn. omega arith;
    inside = λ i inside. omega arith;
    before = λ i u inside soon early. elim (cases_lt u t) [
      | inl old ↦ drove_old i u old ∙ level_first laws.simulation l is.causal i u inside early
      | inr late ↦ drove_new i u late
    ];
    drives = drives;
  }
    where
      drives : (i k u : ℕ) → i < l.nodes → u < l.stop → l.instant i k ≤ u → u < l.instant i (suc k) → drove i u ≡ l.drives i (levels_before (levels_found l drove i) (suc k))
      drives i k u inside soon low high =
          let e = is.ticks i k inside in
          let g = is.ticks i (suc k) inside in
          elim (cases_lt u t) [
            | inl old ↦
                (let few : suc k ≤ (rest.node i inside).start = elim (cases_lt k (rest.node i inside).start) [
                  | inl less ↦ less
                  | inr more ↦ (let after = (rest.node i inside).after in let rise = up i inside (rest.node i inside).start k more in absurd (omega arith))
                ] in
                drove_old i u old ∙ level_then laws.simulation l is.causal i k u inside soon low high ∙ ap (l.drives i) (lists_old i inside (suc k) few))
            | inr late ↦
                (let begun : (rest.node i inside).start ≤ suc k = elim (cases_lt (suc k) (rest.node i inside).start) [
                  | inl less ↦ (let before = (rest.node i inside).before (suc k) less in absurd (omega arith))
                  | inr more ↦ more
                ] in
                let s = still i inside (suc k) begun (λ n less. (let rise = up i inside n k (omega arith) in omega arith)) in
                drove_new i u late ∙ sym (is.drives i (levels_before (levels_found l drove i) (suc k)) inside ∙ ap is_dominant s.going.does.drives))
          ]

  pub lists_then : (i k : ℕ) → i < l.nodes → AreInside l i k → seen l i k ≡ levels_before (lv i) k
  lists_then i k inside before = seen_is laws.simulation l (λ i. l.stop) drove is.causal expected i k inside before
