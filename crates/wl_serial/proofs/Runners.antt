-- All nodes together while one after another runs.
use Rattle.std.proofs.Common.{◌≡◌, ℕ, zero, suc, ◌+◌, ◌<◌, ◌≤◌, ◌≢◌, ◌⊎◌, inl, inr, List, [], ◌∷◌, ◌++◌, length, map, get_or, refl, sym, ◌∙◌, ap, subst, arith, length-append}
use Rattle.std.proofs.Math.ListN.{set, length-set}
use Rattle.std.specs.List.{range_with_len}
use Rattle.std.proofs.lemmas.List.FromFn.{map-range_with_len_more}
use Rattle.std.proofs.lemmas.Bool.{cases_lt, cases_eq}
use Rattle.std.proofs.lemmas.List.{get_or_default, get_or-set_same, get_or-set_other}
use Rattle.wl_topology.specs.Delays.{delay_of}
use Rattle.wl_plan.specs.declared.plan.Plan.{Plan}
use Rattle.wl_serial.specs.declared.running_node.Running.{Running}
use Rattle.wl_serial.specs.declared.outcome.NodeOutcome.{NodeOutcome}
use Rattle.wl_serial.specs.declared.line_at.LineAt.{LineAt}
use Rattle.wl_serial.specs.declared.line_at.Found.{Found}
use Rattle.wl_serial.specs.LineAt.{IsLineAt, AreLines, IsFound, sees}
use Rattle.wl_serial.specs.Outcome.{node_outcome_of}
use Rattle.wl_serial.specs.Running.{IsRunning, AreRunning, AreSomewhere, IsSomewhere, GoesOn, IsKnownOn, IsLater, KnowsOthers, RanBelow, ticks_left}
use Rattle.wl_serial.specs.Stretch.{HasStretched}

-- one more that runs, after the others
get_or_before : (xs : List Running) (x d : Running) (j : ℕ) → j < length xs → get_or (xs ++ x ∷ []) j d ≡ get_or xs j d
get_or_before [] x d j b = absurd (omega arith)
get_or_before (y ∷ ys) x d zero b = refl
get_or_before (y ∷ ys) x d (suc j) b = get_or_before ys x d j (omega arith)

get_or_behind : (xs : List Running) (x d : Running) → get_or (xs ++ x ∷ []) (length xs) d ≡ x
get_or_behind [] x d = refl
get_or_behind (y ∷ ys) x d = get_or_behind ys x d

pub one_more : (plan : Plan) (xs ys : List Running) (x : Running) (i : ℕ) → ys ≡ xs ++ x ∷ [] → length xs ≡ i
    → ((j : ℕ) (d : Running) → j < length xs → IsRunning plan j (get_or xs j d)) → IsRunning plan i x
    → (length ys ≡ i + 1) × ((j : ℕ) (d : Running) → j < length ys → IsRunning plan j (get_or ys j d))
one_more plan xs ys x i e len each run = (long, runs)
  where
    long : length ys ≡ i + 1
    long = ap length e ∙ (length-append xs (x ∷ []) ∙ ap (λ n. n + 1) len)

    runs : (j : ℕ) (d : Running) → j < length ys → IsRunning plan j (get_or ys j d)
    runs j d b = elim (cases_lt j (length xs)) [
      | inl before ↦ subst (IsRunning plan j) (sym (ap (λ zs. get_or zs j d) e ∙ get_or_before xs x d j before)) (each j d before)
      | inr behind ↦ (let here : length xs ≡ j = (let l = long in omega arith) in let there : i ≡ j = omega arith in
          subst (IsRunning plan j) (sym (ap (λ zs. get_or zs j d) e ∙ (ap (λ k. get_or (xs ++ x ∷ []) k d) (sym here) ∙ get_or_behind xs x d))) (subst (λ k. IsRunning plan k x) there run))
    ]

-- one that ran on, in its place
pub one_on : (plan : Plan) (rs : List Running) (j : ℕ) (r : Running) → j < length rs → AreRunning plan rs → IsRunning plan j r → AreRunning plan (set rs j r)
one_on plan rs j r b running run = record { all = length-set rs j r ∙ running.all; each = each }
  where
    each : (i : ℕ) (d : Running) → i < length (set rs j r) → IsRunning plan i (get_or (set rs j r) i d)
    each i d c =
        let inside : i < length rs = subst (λ n. i < n) (length-set rs j r) c in
        elim (cases_lt i j) [
          | inl below ↦ (let other : i ≢ j = omega arith in subst (IsRunning plan i) (sym (get_or-set_other rs j i r d other)) (running.each i d inside))
          | inr above ↦ elim (cases_lt j i) [
            | inl past ↦ (let other : i ≢ j = omega arith in subst (IsRunning plan i) (sym (get_or-set_other rs j i r d other)) (running.each i d inside))
            | inr here ↦ (let same : j ≡ i = omega arith in
                subst (λ k. IsRunning plan k (get_or (set rs j r) k d)) same (subst (IsRunning plan j) (sym (get_or-set_same rs j r d b)) run))
          ]
        ]

-- where nodes run as the simulation does, they are somewhere
pub somewhere : (plan : Plan) (rs : List Running) → AreRunning plan rs → AreSomewhere plan rs
somewhere plan rs running = record { all = running.all; each = λ i d b. let run = running.each i d b in (run.0, run.1.runs.at) }

-- which leaves fewer ticks
pub fewer_left : (end : ℕ) (rs : List Running) (j : ℕ) (r d : Running) → j < length rs → (get_or rs j d).next < end → (get_or rs j d).next < r.next
    → ticks_left end (set rs j r) < ticks_left end rs
fewer_left end [] j r d b before later = absurd (omega arith)
fewer_left end (x ∷ xs) zero r d b before later = omega arith
fewer_left end (x ∷ xs) (suc j) r d b before later = (let f = fewer_left end xs j r d (omega arith) before later in omega arith)

-- what one more of them did, after the others
pub told_by : {X : Type 0} (f : ℕ → X) (seen : List Running) (r : Running) (told more : List X) (o : X)
    → more ≡ told ++ o ∷ [] → told ≡ map f (range_with_len 0 (length seen)) → o ≡ f (length seen) → more ≡ map f (range_with_len 0 (length (seen ++ r ∷ [])))
told_by f seen r told more o e are is =
    e ∙ (ap (λ xs. xs ++ o ∷ []) are
    ∙ (ap (λ x. map f (range_with_len 0 (length seen)) ++ x ∷ []) is
    ∙ (sym (map-range_with_len_more f 0 (length seen) (length seen) (omega arith))
    ∙ ap (λ n. map f (range_with_len 0 n)) (sym (length-append seen (r ∷ []))))))

pub told_more : (plan : Plan) (seen : List Running) (r : Running) (told more : List NodeOutcome) (o : NodeOutcome)
    → more ≡ told ++ o ∷ [] → told ≡ map (node_outcome_of plan) (range_with_len 0 (length seen)) → o ≡ node_outcome_of plan (length seen)
    → more ≡ map (node_outcome_of plan) (range_with_len 0 (length (seen ++ r ∷ [])))
told_more plan = told_by (node_outcome_of plan)

-- the one that stands at a place is the node of that number
pub stands_at : (plan : Plan) (rs : List Running) (i : ℕ) (r : Running) → i < length rs → r ≡ get_or rs i r → AreRunning plan rs → IsRunning plan i r
stands_at plan rs i r b e running = subst (IsRunning plan i) (sym e) (running.each i r b)

-- what the others wait for stays as it is
pub horizon_on : (plan : Plan) (j t : ℕ) (rs : List Running) (r : Running) → KnowsOthers plan j t rs → KnowsOthers plan j t (set rs j r)
horizon_on plan j t rs r known i d b other =
    subst (λ x. t ≤ x.known + delay_of plan.topology i j) (sym (get_or-set_other rs j i r d other)) (known i d (subst (λ n. i < n) (length-set rs j r) b) other)

pub fewer_on : (end : ℕ) (first rs : List Running) (j : ℕ) (r d : Running) → j < length rs → (get_or rs j d).next < end → (get_or rs j d).next < r.next
    → (rs ≡ first) ⊎ (ticks_left end rs < ticks_left end first) → ticks_left end (set rs j r) < ticks_left end first
fewer_on end first rs j r d b before later so_far =
    let f = fewer_left end rs j r d b before later in
    elim so_far [
      | inl same ↦ (let e = ap (ticks_left end) same in omega (arith, f, e))
      | inr fewer ↦ omega (arith, f, fewer)
    ]

-- a node whose next quantum stays leaves as many ticks
pub same_left : (end : ℕ) (rs : List Running) (j : ℕ) (r d : Running) → r.next ≡ (get_or rs j d).next → ticks_left end (set rs j r) ≤ ticks_left end rs
same_left end [] j r d same = omega arith
same_left end (x ∷ xs) zero r d same = omega (arith, same)
same_left end (x ∷ xs) (suc j) r d same = (let f = same_left end xs j r d same in omega (arith, f))

-- one line anew
pub line_on : (plan : Plan) (j : ℕ) (es : List LineAt) (e : LineAt) → j < length es → AreLines plan es → IsLineAt plan j e → AreLines plan (set es j e)
line_on plan j es e b are is = record { all = length-set es j e ∙ are.all; each = each }
  where
    each : (k : ℕ) (d : LineAt) → k < length (set es j e) → IsLineAt plan k (get_or (set es j e) k d)
    each k d c = elim (cases_eq k j) [
      | inl same ↦ subst (λ n. IsLineAt plan n (get_or (set es j e) n d)) (sym same) (subst (IsLineAt plan j) (sym (get_or-set_same es j e d b)) is)
      | inr other ↦ subst (IsLineAt plan k) (sym (get_or-set_other es j k e d other)) (are.each k d (subst (λ n. k < n) (length-set es j e) c))
    ]

-- a stretch of a level that a node finds is one by what the nodes have told
pub stretched : (plan : Plan) (rs : List Running) (j until : ℕ) (x r : Running) (f : Found) → j < length rs → IsFound plan j rs f → f.until ≤ until → IsSomewhere plan j r
    → GoesOn plan j (λ t. f.level) f.until (get_or rs j x) r → RanBelow plan j f.until r → IsKnownOn (get_or rs j x) r → IsLater (get_or rs j x) r → (get_or rs j x).next < r.next
    → HasStretched plan j until rs (set rs j r)
stretched plan rs j until x r f b found few somewhere goes below known further later = record {
  r = r;
  is = refl;
  somewhere = somewhere;
  goes = λ d. subst (λ o. GoesOn plan j (sees plan rs d j) until o r) (get_or_default rs j x d b)
      (λ delay disturbed k causal run is. goes delay disturbed k causal run
      (λ t after before early told. found_here d t after before ∙ is t after (omega (arith, before, few)) early told));
  below = λ q h. let g = below q h in omega (arith, g, few);
  known = λ d. subst (λ o. IsKnownOn o r) (get_or_default rs j x d b) known;
  further = λ d. subst (λ o. IsLater o r) (get_or_default rs j x d b) further;
  later = λ d. subst (λ o. o.next < r.next) (get_or_default rs j x d b) later;
}
  where
    found_here : (d : Running) (t : ℕ) → (get_or rs j x).next ≤ t → t < f.until → f.level ≡ sees plan rs d j t
    found_here d t after before = (found d).1 t (let e = ap (λ o. o.next) (get_or_default rs j x d b) in omega (arith, e, after)) before

-- and so below a later tick
pub stretched_less : (plan : Plan) (j a b : ℕ) (old new : List Running) → a ≤ b → HasStretched plan j a old new → HasStretched plan j b old new
stretched_less plan j a b old new less ran = record {
  r = ran.r;
  is = ran.is;
  somewhere = ran.somewhere;
  goes = λ d delay disturbed k causal run is. ran.goes d delay disturbed k causal run (λ t after before early told. is t after (omega (arith, before, less)) early told);
  below = λ q h. let g = ran.below q h in omega (arith, g, less);
  known = ran.known;
  further = ran.further;
  later = ran.later;
}
