-- What the changes of the nodes tell of the line at a place, while one of them tells more.
use Rattle.std.proofs.Common.{◌≡◌, ℕ, ◌+◌, ◌-◌, ◌<◌, ◌≤◌, ◌≢◌, false, ◌&&◌, ◌||◌, inl, inr, List, [], ◌∷◌, ◌++◌, length, get_or, sym, ◌∙◌, ap, subst, arith, nat_le}
use Rattle.std.proofs.Math.ListN.{set, length-set}
use Rattle.std.proofs.lemmas.Bool.{cases_lt, cases_eq, lt-leb}
use Rattle.std.proofs.lemmas.List.{get_or-set_same, get_or-set_other}
use Rattle.wl_level.specs.Levels.{level_of}
use Rattle.wl_topology.specs.Delays.{delay_of}
use Rattle.wl_topology.proofs.Callers.{any_same}
use Rattle.wl_record_core.specs.Truth.{count_below, odd}
use Rattle.wl_record_core.specs.TableLaws.{TableLaws}
use Rattle.wl_plan.specs.declared.plan.Plan.{Plan}
use Rattle.wl_plan.specs.PlanLine.{line_of, disturbed}
use Rattle.wl_plan.specs.SimulationLaws.{SimulationLaws}
use Rattle.wl_plan.specs.Sound.{IsSound}
use Rattle.wl_pulse.specs.Pulses.{drove}
use Rattle.wl_serial.specs.declared.line_at.LineAt.{LineAt}
use Rattle.wl_serial.specs.declared.running_node.Running.{Running}
use Rattle.wl_serial.specs.LineAt.{comes, IsPulseTold, IsHeard, AreHeard, AreSooner, AreSources, HasChanged, sees}
use Rattle.wl_serial.specs.Running.{AreRunning, KnowsOthers, OwnIsTold, finds}
use Rattle.wl_serial.proofs.Found.{makes}

-- below the horizon what the nodes have told is what they make
pub sees_it : (plan : Plan) (rs : List Running) (j horizon t : ℕ) (d : Running) → SimulationLaws → TableLaws → IsSound (line_of plan) → AreRunning plan rs
    → KnowsOthers plan j horizon rs → t < horizon → OwnIsTold (line_of plan) j (get_or rs j d).changes t → sees plan rs d j t ≡ finds (line_of plan) j t
sees_it plan rs j horizon t d laws table sound running known early told =
    let all = running.all in
    ap (λ v. level_of (v || disturbed plan j t))
    (sym (any_same (length plan.nodes) (λ i. comes plan i j t) (λ i. drove (get_or rs i d).changes (delay_of plan.topology i j) t)
    (λ i b. makes plan rs i j t horizon d d laws table sound running (omega (arith, all, b)) known early told)))

-- a change doesn't come before a delay has passed
pub drove_before : TableLaws → (xs : List ℕ) (c delay u : ℕ) → u < c + delay → drove (xs ++ c ∷ []) delay u ≡ drove xs delay u
drove_before table xs c delay u before = elim (cases_lt u delay) [
  | inl early ↦ ap (λ w. w && odd (count_below (u - delay + 1) (xs ++ c ∷ []))) (lt-leb delay u early) ∙ sym (ap (λ w. w && odd (count_below (u - delay + 1) xs)) (lt-leb delay u early))
  | inr late ↦ ap (λ n. nat_le delay u && odd n) (table.skip_last (u - delay + 1) c xs (omega (arith, before, late)))
]

-- below the tick at which the change of node i comes all make what they made
before_it : (plan : Plan) (rs : List Running) (i tick m k t : ℕ) (r d : Running) → TableLaws → i < length rs → HasChanged i tick rs r → (k ≡ i → t < tick + delay_of plan.topology i m)
    → drove (get_or (set rs i r) k d).changes (delay_of plan.topology k m) t ≡ drove (get_or rs k d).changes (delay_of plan.topology k m) t
before_it plan rs i tick m k t r d table b changed early = elim (cases_eq k i) [
  | inl own ↦ subst (λ n. drove (get_or (set rs i r) n d).changes (delay_of plan.topology n m) t ≡ drove (get_or rs n d).changes (delay_of plan.topology n m) t) (sym own) (here (early own))
  | inr other ↦ ap (λ x. drove x.changes (delay_of plan.topology k m) t) (get_or-set_other rs i k r d other)
]
  where
    here : t < tick + delay_of plan.topology i m → drove (get_or (set rs i r) i d).changes (delay_of plan.topology i m) t ≡ drove (get_or rs i d).changes (delay_of plan.topology i m) t
    here before =
        ap (λ x. drove x.changes (delay_of plan.topology i m) t) (get_or-set_same rs i r d b)
        ∙ (ap (λ xs. drove xs (delay_of plan.topology i m) t) (changed d).0
        ∙ drove_before table (get_or rs i d).changes tick (delay_of plan.topology i m) t before)

-- a node that runs on has its next quantum no earlier
next_on : (rs : List Running) (i m : ℕ) (r d : Running) → i < length rs → (get_or rs i d).next ≤ r.next → (get_or rs m d).next ≤ (get_or (set rs i r) m d).next
next_on rs i m r d b later = elim (cases_eq m i) [
  | inl own ↦ subst (λ n. (get_or rs n d).next ≤ (get_or (set rs i r) n d).next) (sym own) (let e = ap (λ x. x.next) (get_or-set_same rs i r d b) in omega (arith, e, later))
  | inr other ↦ (let e = ap (λ x. x.next) (get_or-set_other rs i m r d other) in omega (arith, e))
]

-- what is heard below the tick at which it comes stays
pub heard_before : (plan : Plan) (rs : List Running) (i tick m : ℕ) (r : Running) (p q : LineAt) → TableLaws → i < length rs → HasChanged i tick rs r
    → IsHeard plan rs m p → q.heard.from ≡ p.heard.from → q.heard.until ≤ p.heard.until → q.heard.until ≤ tick + delay_of plan.topology i m → q.heard.dominant ≡ p.heard.dominant
    → q.disturbance ≡ p.disturbance → AreSooner i (tick + delay_of plan.topology i m) p.sources q.sources → IsHeard plan (set rs i r) m q
heard_before plan rs i tick m r p q table b changed is from until comes_then same disturbance sooner = record {
  told = told;
  sources = sources;
  begun = begun;
  disturbance = λ d. let h = is.disturbance d in let e = next_on rs i m r d b (changed d).1 in let f = ap (λ x. x.from) disturbance in omega (arith, h, e, f);
}
  where
    told : IsPulseTold plan (set rs i r) m q.heard
    told d t after before =
        any_same (length plan.nodes) (λ k. drove (get_or (set rs i r) k d).changes (delay_of plan.topology k m) t) (λ k. drove (get_or rs k d).changes (delay_of plan.topology k m) t)
        (λ k c. before_it plan rs i tick m k t r d table b changed (λ own. omega (arith, before, comes_then)))
        ∙ (is.told d t (omega (arith, from, after)) (omega (arith, until, before)) ∙ sym same)

    kept : (k u : ℕ) → u < get_or q.sources.nexts k 0 → u < get_or p.sources.nexts k 0
    kept k u before = elim (cases_eq k i) [
      | inl own ↦
          (let few = sooner.few in
          let e = ap (λ n. get_or q.sources.nexts n 0) own in let f = ap (λ n. get_or p.sources.nexts n 0) own in omega (arith, before, few, e, f))
      | inr other ↦ (let e = sooner.others k other in omega (arith, before, e))
    ]

    sources : AreSources plan (set rs i r) m q.heard.from q.sources
    sources k u d c after before =
        before_it plan rs i tick m k u r d table b changed
        (λ own. let comes = sooner.comes_then in let e = ap (λ n. get_or q.sources.nexts n 0) own in omega (arith, before, comes, e))
        ∙ (is.sources k u d c (omega (arith, from, after)) (kept k u before) ∙ ap (λ bs. get_or bs k false) (sym sooner.drives))

    begun : (d : Running) → q.heard.from ≤ (get_or (set rs i r) m d).next
    begun d = (let h = is.begun d in let e = next_on rs i m r d b (changed d).1 in omega (arith, h, e, from))

-- a node that told no change leaves all as it was
pub heard_same : (plan : Plan) (rs : List Running) (i : ℕ) (r : Running) (lines : List LineAt) → i < length rs
    → ((d : Running) → (r.changes ≡ (get_or rs i d).changes) × ((get_or rs i d).next ≤ r.next)) → AreHeard plan rs lines → AreHeard plan (set rs i r) lines
heard_same plan rs i r lines b same are m e c = record {
  told = λ d t after before.
      any_same (length plan.nodes) (λ k. drove (get_or (set rs i r) k d).changes (delay_of plan.topology k m) t) (λ k. drove (get_or rs k d).changes (delay_of plan.topology k m) t) (λ k h. each k t d)
      ∙ (are m e c).told d t after before;
  sources = λ k u d h after before. each k u d ∙ (are m e c).sources k u d h after before;
  begun = λ d. let h = (are m e c).begun d in let f = next_on rs i m r d b (same d).1 in omega (arith, h, f);
  disturbance = λ d. let h = (are m e c).disturbance d in let f = next_on rs i m r d b (same d).1 in omega (arith, h, f);
}
  where
    each : (k t : ℕ) (d : Running) → drove (get_or (set rs i r) k d).changes (delay_of plan.topology k m) t ≡ drove (get_or rs k d).changes (delay_of plan.topology k m) t
    each k t d = elim (cases_eq k i) [
      | inl own ↦
          subst (λ n. drove (get_or (set rs i r) n d).changes (delay_of plan.topology n m) t ≡ drove (get_or rs n d).changes (delay_of plan.topology n m) t) (sym own)
          (ap (λ x. drove x.changes (delay_of plan.topology i m) t) (get_or-set_same rs i r d b) ∙ ap (λ xs. drove xs (delay_of plan.topology i m) t) (same d).0)
      | inr other ↦ ap (λ x. drove x.changes (delay_of plan.topology k m) t) (get_or-set_other rs i k r d other)
    ]

-- one place heard anew
pub heard_anew : (plan : Plan) (rs : List Running) (j : ℕ) (lines : List LineAt) (e : LineAt) → j < length lines → IsHeard plan rs j e → AreHeard plan rs lines → AreHeard plan rs (set lines j e)
heard_anew plan rs j lines e b is are k d c = elim (cases_eq k j) [
  | inl same ↦ subst (λ n. IsHeard plan rs n (get_or (set lines j e) n d)) (sym same) (subst (IsHeard plan rs j) (sym (get_or-set_same lines j e d b)) is)
  | inr other ↦ subst (IsHeard plan rs k) (sym (get_or-set_other lines j k e d other)) (are k d (subst (λ n. k < n) (length-set lines j e) c))
]

-- The first m places know of the new runs, the others of the old ones.
abbrev pub AreTold : Plan → List Running → List Running → List LineAt → ℕ → Type 0
AreTold plan old new lines m =
    (k : ℕ) (d : LineAt) → k < length lines → (k < m → IsHeard plan new k (get_or lines k d)) × (m ≤ k → IsHeard plan old k (get_or lines k d))

pub told_one_more : (plan : Plan) (old new : List Running) (lines : List LineAt) (m : ℕ) (e : LineAt) → m < length lines → AreTold plan old new lines m → IsHeard plan new m e
    → AreTold plan old new (set lines m e) (m + 1)
told_one_more plan old new lines m e b told is k d c =
    let inside : k < length lines = subst (λ n. k < n) (length-set lines m e) c in (
      λ h. elim (cases_eq k m) [
        | inl same ↦ subst (λ n. IsHeard plan new n (get_or (set lines m e) n d)) (sym same) (subst (IsHeard plan new m) (sym (get_or-set_same lines m e d b)) is)
        | inr other ↦ subst (IsHeard plan new k) (sym (get_or-set_other lines m k e d other)) ((told k d inside).0 (omega (arith, h, other)))
      ],
      λ h.
          let other : k ≢ m = omega (arith, h) in
          subst (IsHeard plan old k) (sym (get_or-set_other lines m k e d other)) ((told k d inside).1 (omega (arith, h))),
    )
