-- What comes from each node, below the tick up to which its drive is known, is what the simulation says.
use Rattle.std.proofs.Common.{◌≡◌, ℕ, ◌+◌, ◌-◌, ◌<◌, ◌≤◌, Bool, ◌&&◌, ◌||◌, ◌⊎◌, inl, inr, List, length, take, get_or, sym, ◌∙◌, ap, subst, arith, nat_le, add-one}
use Rattle.std.proofs.lemmas.Bool.{cases_lt, cases_eq, lt-leb}
use Rattle.std.proofs.lemmas.List.{get_or_default}
use Rattle.wl_topology.specs.Delays.{delay_of}
use Rattle.wl_topology.specs.Driven.{driven}
use Rattle.wl_record_core.specs.Truth.{count_below, odd}
use Rattle.wl_record_core.specs.TableLaws.{TableLaws}
use Rattle.wl_plan.specs.declared.plan.Plan.{Plan}
use Rattle.wl_plan.specs.PlanLine.{line_of, table_of}
use Rattle.wl_plan.specs.Line.{Line}
use Rattle.wl_plan.specs.Simulation.{level, changes}
use Rattle.wl_plan.specs.SimulationLaws.{SimulationLaws}
use Rattle.wl_plan.specs.Sound.{IsCausal, IsSound}
use Rattle.wl_pulse.specs.Pulses.{drove}
use Rattle.wl_serial.specs.declared.running_node.Running.{Running}
use Rattle.wl_serial.specs.LineAt.{comes}
use Rattle.wl_serial.specs.Running.{IsRunning, AreRunning, KnowsOthers, OwnIsTold}

-- the front of a list of changes tells the level up to where it reaches
pub level_by : (l : Line) (i u n : ℕ) (xs : List ℕ) → SimulationLaws → TableLaws → IsCausal l → i < l.nodes → xs ≡ take n (changes l i)
    → count_below (u + 1) (changes l i) ≤ n → odd (count_below (u + 1) xs) ≡ level l i u
level_by l i u n xs laws table causal b front few =
    ap odd (ap (count_below (u + 1)) front ∙ table.count_front (changes l i) (u + 1) n (laws.changes_increase l i) few)
    ∙ (ap (λ v. odd (count_below v (changes l i))) (add-one u) ∙ sym (laws.level_odd l i u causal b))

-- and so what comes back to the node itself, up to a tick below which it has them all
pub own_on : (l : Line) (i t n : ℕ) (xs : List ℕ) → SimulationLaws → TableLaws → IsCausal l → i < l.nodes → xs ≡ take n (changes l i)
    → count_below t (changes l i) ≤ n → OwnIsTold l i xs t
own_on l i t n xs laws table causal b front few = same (cases_lt t (l.delay i i))
  where
    delay : ℕ
    delay = l.delay i i

    same : (t < delay) ⊎ (delay ≤ t) → (nat_le delay t && level l i (t - delay)) ≡ (nat_le delay t && odd (count_below (t - delay + 1) xs))
    same (inl early) = ap (λ v. v && level l i (t - delay)) (lt-leb delay t early) ∙ sym (ap (λ v. v && odd (count_below (t - delay + 1) xs)) (lt-leb delay t early))
    same (inr late) =
        let some : 1 ≤ delay = causal.delays i i b b in
        let less = table.count_less (t - delay + 1) t (changes l i) (omega (arith, some, late)) in
        ap (λ v. nat_le delay t && v) (sym (level_by l i (t - delay) n xs laws table causal b front (omega (arith, less, few))))

-- below the tick up to which its drive is known, what a node has changed tells its level
pub level_told : (plan : Plan) (i u : ℕ) (r : Running) → SimulationLaws → TableLaws → IsSound (line_of plan) → i < length plan.nodes → IsRunning plan i r
    → u < r.known → odd (count_below (u + 1) r.changes) ≡ level (line_of plan) i u
level_told plan i u r laws table sound b run before =
    let most : count_below (u + 1) (table_of plan i) ≤ count_below r.known (table_of plan i) = table.count_less (u + 1) r.known (table_of plan i) (omega arith) in
    let known = run.1.known in
    level_by (line_of plan) i u (count_below ((line_of plan).instant i run.0) (table_of plan i)) r.changes laws table sound.causal b run.1.runs.changes (omega (arith, most, known))

-- and so what comes from it after a delay
pub come : (plan : Plan) (i j t : ℕ) (r : Running) → SimulationLaws → TableLaws → IsSound (line_of plan) → i < length plan.nodes
    → IsRunning plan i r → t < r.known + delay_of plan.topology i j → comes plan i j t ≡ drove r.changes (delay_of plan.topology i j) t
come plan i j t r laws table sound b run before = same (cases_lt t (delay_of plan.topology i j))
  where
    delay : ℕ
    delay = delay_of plan.topology i j

    same : (t < delay) ⊎ (delay ≤ t) → (nat_le delay t && level (line_of plan) i (t - delay)) ≡ (nat_le delay t && odd (count_below (t - delay + 1) r.changes))
    same (inl early) = ap (λ v. v && level (line_of plan) i (t - delay)) (lt-leb delay t early) ∙ sym (ap (λ v. v && odd (count_below (t - delay + 1) r.changes)) (lt-leb delay t early))
    same (inr late) = ap (λ v. nat_le delay t && v) (sym (level_told plan i (t - delay) r laws table sound b run (omega (arith, late, before))))

-- one node more
pub driven_one_more : (n : ℕ) (delay : ℕ → ℕ → ℕ) (drives : ℕ → ℕ → Bool) (j t : ℕ) (a b : Bool) → driven n delay drives j t ≡ a
    → (nat_le (delay n j) t && drives n (t - delay n j)) ≡ b → driven (n + 1) delay drives j t ≡ (a || b)
driven_one_more n delay drives j t a b e f =
    ap (λ m. driven m delay drives j t) (add-one n) ∙ (ap (λ v. v || (nat_le (delay n j) t && drives n (t - delay n j))) e ∙ ap (λ v. a || v) f)

-- the one at a place is that node
pub running_at : (plan : Plan) (rs : List Running) (i : ℕ) (r : Running) → AreRunning plan rs → i < length rs → r ≡ get_or rs i r → IsRunning plan i r
running_at plan rs i r are b is = subst (IsRunning plan i) (sym is) (are.each i r b)

-- what node i makes at place j, below the horizon, is what its changes tell
pub makes : (plan : Plan) (rs : List Running) (i j u horizon : ℕ) (d r : Running) → SimulationLaws → TableLaws → IsSound (line_of plan) → AreRunning plan rs → i < length rs
    → KnowsOthers plan j horizon rs → u < horizon → OwnIsTold (line_of plan) j (get_or rs j d).changes u → comes plan i j u ≡ drove (get_or rs i r).changes (delay_of plan.topology i j) u
makes plan rs i j u horizon d r laws table sound are b known early told = elim (cases_eq i j) [
  | inl own ↦
      subst (λ n. comes plan n j u ≡ drove (get_or rs n r).changes (delay_of plan.topology n j) u) (sym own)
      (told ∙ ap (λ x. drove x.changes (delay_of plan.topology j j) u) (get_or_default rs j d r (subst (λ n. n < length rs) own b)))
  | inr other ↦
      let h = known i r b other in
      let all = are.all in
      come plan i j u (get_or rs i r) laws table sound (omega (arith, b, all)) (are.each i r b) (omega (arith, early, h))
]
