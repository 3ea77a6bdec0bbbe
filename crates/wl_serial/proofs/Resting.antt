-- On a line at rest no node changes its drive.
use Rattle.std.proofs.Common.{◌≡◌, ℕ, ◌+◌, ◌-◌, ◌<◌, ◌≤◌, false, ◌⊎◌, inl, inr, List, ◌++◌, replicate, length, get_or, sym, ◌∙◌, ap, subst, arith}
use Rattle.std.proofs.Math.ListN.{set, length-set}
use Rattle.std.proofs.lemmas.Bool.{cases_lt, cases_eq, false_from_ne_true, true≢false}
use Rattle.std.proofs.lemmas.List.{get_or_default, get_or-set_same, get_or-set_other}
use Rattle.wl_level.specs.declared.Level.{Level}
use Rattle.wl_level.specs.declared.Level.TheVariants.{Recessive}
use Rattle.wl_level.specs.Levels.{is_dominant}
use Rattle.wl_topology.specs.Delays.{delay_of}
use Rattle.wl_topology.specs.Driven.{DrivenLaws}
use Rattle.wl_record_core.specs.Truth.{count_below}
use Rattle.wl_record_core.specs.TableLaws.{TableLaws}
use Rattle.wl_node.specs.History.{history_of}
use Rattle.wl_node.specs.Reached.{Shows, StandsFor}
use Rattle.wl_plan.specs.declared.plan.Plan.{Plan}
use Rattle.wl_plan.specs.PlanLine.{line_of, table_of}
use Rattle.wl_plan.specs.Rest.{IsAtRest, RestLaw, StandsUpTo}
use Rattle.wl_plan.specs.Simulation.{level, seen}
use Rattle.wl_plan.specs.SimulationLaws.{SimulationLaws}
use Rattle.wl_plan.specs.Sound.{IsSound}
use Rattle.wl_serial.specs.declared.running_node.Running.{Running}
use Rattle.wl_serial.specs.LineAt.{tells}
use Rattle.wl_serial.specs.QuietLine.{AreLifted, AreSilent, IsSilent, AllStand, AllStay, NodeStands}
use Rattle.wl_serial.specs.Running.{HasRun, AreRunning, IsNext}
use Rattle.wl_serial.proofs.Found.{level_told}
use Rattle.wl_serial.proofs.Hearing.{heard_same}
use Rattle.wl_serial.proofs.Known.{one_of}
use Rattle.wl_serial.proofs.Runners.{same_left}

-- a node that drives recessive, and stays if it sees recessive only, up to the quantum that begins then
pub stands : (plan : Plan) (i k n t : ℕ) (r : Running) (drive : Level) → HasRun plan i r k → Shows r.node (λ h. drive ≡ h.drive) → is_dominant drive ≡ false
    → ((m : ℕ) → m ≤ n → StandsFor r.node Recessive m) → t ≤ (line_of plan).instant i (k + n) → StandsUpTo (line_of plan) i k t
stands plan i k n t r drive run is recessive stays reach = (
  n,
  reach,
  λ m few.
      let levels = seen (line_of plan) i k in
      ap (λ s. is_dominant (history_of s (levels ++ replicate m Recessive)).drive) (sym run.runs.at.setup)
      ∙ (ap is_dominant (stays m few levels run.runs.node ∙ sym (is levels run.runs.node)) ∙ recessive),
)

-- silent or standing up to an earlier tick too
pub silent_less : (plan : Plan) (rs : List Running) (j from t u : ℕ) → t ≤ u → IsSilent plan rs j from u → IsSilent plan rs j from t
silent_less plan rs j from t u less is = record { told = λ d v after before. is.told d v after (omega (arith, less, before)); calm = λ v after before. is.calm v after (omega (arith, less, before)) }

pub stands_less : (plan : Plan) (t u i : ℕ) (r : Running) → t ≤ u → NodeStands plan u i r → NodeStands plan t i r
stands_less plan t u i r less is k run = (let s = is k run in (s.0, (let e = s.1 in omega (arith, less, e)), s.2))

-- below tick 0 nothing changes
pub stay_none : (plan : Plan) (rs : List Running) (t : ℕ) → TableLaws → t ≤ 0 → AllStay plan t rs
stay_none plan rs t table none i d b =
    let f = table.count_less t 0 (table_of plan i) none in
    let e = table.count_zero (table_of plan i) in
    omega (arith, e, f)

-- one node whose drive is known further
module _ (rs : List Running) (j : ℕ) (r : Running) (b : j < length rs) (same : (d : Running) → r.next ≡ (get_or rs j d).next) where
  next_is : (k : ℕ) (d : Running) → (get_or (set rs j r) k d).next ≡ (get_or rs k d).next
  next_is k d = elim (cases_eq k j) [
    | inl own ↦ subst (λ n. (get_or (set rs j r) n d).next ≡ (get_or rs n d).next) (sym own) (ap (λ x. x.next) (get_or-set_same rs j r d b) ∙ same d)
    | inr other ↦ ap (λ x. x.next) (get_or-set_other rs j k r d other)
  ]

  known_further : ((d : Running) → (get_or rs j d).known ≤ r.known) → (k : ℕ) (d : Running) → (get_or rs k d).known ≤ (get_or (set rs j r) k d).known
  known_further more k d = elim (cases_eq k j) [
    | inl own ↦
        subst (λ n. (get_or rs n d).known ≤ (get_or (set rs j r) n d).known) (sym own)
        (let e = ap (λ x. x.known) (get_or-set_same rs j r d b) in let f = more d in omega (arith, e, f))
    | inr other ↦ (let e = ap (λ x. x.known) (get_or-set_other rs j k r d other) in omega (arith, e))
  ]

  pub stay_on : (plan : Plan) (t : ℕ) → AllStay plan t rs → AllStay plan t (set rs j r)
  stay_on plan t stay k d c =
      let f = stay k d (subst (λ n. k < n) (length-set rs j r) c) in
      let e = ap (λ v. count_below v (table_of plan k)) (next_is k d) in
      omega (arith, e, f)

  pub lifted_on : (plan : Plan) (old : List Running) → ((d : Running) → r.changes ≡ (get_or rs j d).changes) → ((d : Running) → (get_or rs j d).known ≤ r.known)
      → AreLifted plan old rs → AreLifted plan old (set rs j r)
  lifted_on plan old changes more was = record {
    heard = λ lines are. heard_same plan rs j r lines b (λ d. (changes d, (let e = same d in omega (arith, e)))) (was.heard lines are);
    next = λ k is. next_on k (was.next k is);
    left = (let f = same_left plan.end rs j r r (same r) in let e = was.left in omega (arith, e, f));
  }
    where
      next_on : (k : ℕ) → IsNext plan.end rs k → IsNext plan.end (set rs j r) k
      next_on k is = record {
        is_node = subst (λ n. k < n) (sym (length-set rs j r)) is.is_node;
        before = λ d. let f = is.before d in let e = next_is k d in omega (arith, e, f);
        first = λ d i e c.
            let f = is.first d i e (subst (λ n. i < n) (length-set rs j r) c) in
            let g = next_is k d in
            let h = known_further more i e in
            omega (arith, f, g, h);
      }

pub lifted_none : (plan : Plan) (rs : List Running) → AreLifted plan rs rs
lifted_none plan rs = record { heard = λ lines are. are; next = λ j is. is; left = omega arith }

module _ (plan : Plan) (rs : List Running) (running : AreRunning plan rs) where
  -- how many quanta node i has run, where there is one
  abbrev quanta_by : (i : ℕ) → (i < length rs) ⊎ (length rs ≤ i) → ℕ
  quanta_by i (inl b) = (running.each i (one_of rs i b) b).0
  quanta_by i (inr past) = 0

  run_by : (i : ℕ) (c : (i < length rs) ⊎ (length rs ≤ i)) (d : Running) → i < length rs → HasRun plan i (get_or rs i d) (quanta_by i c)
  run_by i (inl b) d inside =
      let r = one_of rs i b in
      subst (λ x. HasRun plan i x (running.each i r b).0) (get_or_default rs i r d b) (running.each i r b).1
  run_by i (inr past) d inside = absurd (omega (arith, past, inside))

  abbrev quanta : ℕ → ℕ
  quanta i = quanta_by i (cases_lt i (length rs))

  has_run : (i : ℕ) (d : Running) → i < length rs → HasRun plan i (get_or rs i d) (quanta i)
  has_run i d b = run_by i (cases_lt i (length rs)) d b

  module _ (drives : DrivenLaws) (laws : SimulationLaws) (table : TableLaws) (sound : IsSound (line_of plan)) (t : ℕ) where
    -- what node i drove before its next quantum comes to place j recessive
    recessive : AreSilent plan rs t → (i j u : ℕ) → i < length rs → j < length rs → (line_of plan).instant j (quanta j) ≤ u → u < t → delay_of plan.topology i j ≤ u
        → u - delay_of plan.topology i j < (line_of plan).instant i (quanta i) → level (line_of plan) i (u - delay_of plan.topology i j) ≡ false
    recessive silent i j u b c from below comes before =
        let d = one_of rs i b in
        let e = (has_run j d c).runs.at.next in
        let all = running.all in
        let own = has_run i d b in
        let next = own.runs.at.next in
        let promised = own.promised in
        let v = u - delay_of plan.topology i j in
        let told = (silent j d c).told d u (omega (arith, e, from)) below in
        sym (level_told plan i v (get_or rs i d) laws table sound (omega (arith, b, all)) (running.each i d b) (omega (arith, before, next, promised)))
        ∙ false_from_ne_true (tells rs d i v) (λ h.
        true≢false (sym (drives.dominant_from (length plan.nodes) (delay_of plan.topology) (tells rs d) i j u (omega (arith, b, all)) comes h) ∙ told))

    at_rest : AreSilent plan rs t → AllStand plan t rs → IsAtRest (line_of plan) quanta t
    at_rest silent stand = record {
      inside = λ i b. (has_run i (one_of rs i (here i b)) (here i b)).runs.inside;
      silent = λ i j u b c from below comes before. recessive silent i j u (here i b) (here j c) from below comes before;
      calm = λ j u c from below.
          let d = one_of rs j (here j c) in
          let e = (has_run j d (here j c)).runs.at.next in
          (silent j d (here j c)).calm u (omega (arith, e, from)) below;
      stands = λ i b. let d = one_of rs i (here i b) in stand i d (here i b) (quanta i) (has_run i d (here i b));
    }
      where
        here : (i : ℕ) → i < length plan.nodes → i < length rs
        here i b = (let all = running.all in omega (arith, b, all))

    pub all_stay : RestLaw → AreSilent plan rs t → AllStand plan t rs → AllStay plan t rs
    all_stay law silent stand i d b =
        let k = quanta i in
        let all = running.all in
        let next = ap (λ u. count_below u (table_of plan i)) (has_run i d b).runs.at.next in
        elim (cases_lt t ((line_of plan).instant i k)) [
          | inl before ↦ (let f = table.count_less t ((line_of plan).instant i k) (table_of plan i) (omega (arith, before)) in omega (arith, f, next))
          | inr reached ↦ (let f = law (line_of plan) quanta t sound.causal (at_rest silent stand) i (omega (arith, b, all)) reached in omega (arith, f, next))
        ]
