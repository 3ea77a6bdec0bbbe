-- A node that runs on by its quanta, before the tick of its next one is noted, and beside the changes of one other node.
use Rattle.std.proofs.Common.{◌≡◌, ℕ, zero, suc, ◌+◌, ◌<◌, ◌≤◌, ◌≢◌, ◌⊎◌, Bool, true, false, ◌||◌, if◌then◌else◌, inl, inr, List, [], ◌∷◌, ◌++◌, length, replicate, get_or, refl, sym, ◌∙◌, ap, subst, arith, length-append, set-set}
use Rattle.std.proofs.Math.Bool.{or-false}
use Rattle.std.proofs.Math.ListN.{set, length-set}
use Rattle.std.proofs.lemmas.Bool.{cases_lt}
use Rattle.std.proofs.lemmas.List.{get_or_default, get_or-set_same, get_or-set_other, set-get_or}
use Rattle.wl_level.specs.declared.Level.{Level}
use Rattle.wl_level.specs.Levels.{level_of, same}
use Rattle.wl_level.proofs.Callers.{same_equal}
use Rattle.wl_clock.specs.Timing.{tick_of}
use Rattle.wl_record_core.specs.TableLaws.{TableLaws}
use Rattle.wl_topology.specs.Delays.{delay_of}
use Rattle.wl_node.specs.declared.node.Node.{Node}
use Rattle.wl_node.specs.declared.setup.NodeSetup.{NodeSetup}
use Rattle.wl_node.specs.History.{history_of}
use Rattle.wl_node.specs.Reached.{HasGone, IsNode, TurnsAfter, keeps_lists, node_setup, quanta_of}
use Rattle.wl_plan.specs.declared.plan.Plan.{Plan}
use Rattle.wl_plan.specs.Limits.{most_quanta}
use Rattle.wl_plan.specs.PlanLine.{setup_at, line_of}
use Rattle.wl_plan.specs.Simulation.{seen}
use Rattle.wl_plan.specs.SimulationLaws.{SimulationLaws}
use Rattle.wl_plan.specs.Sound.{IsSound}
use Rattle.wl_pulse.specs.Pulses.{drove}
use Rattle.wl_serial.specs.declared.running_node.Running.{Running}
use Rattle.wl_serial.specs.Guess.{RanUpTo}
use Rattle.wl_serial.specs.LineAt.{HearsOnly}
use Rattle.wl_serial.specs.Running.{GoesOn, IsAt, IsLater, IsSomewhere, OwnIsTold, RanBelow, RunsBelow, RunsOn, by_quanta, line_with}
use Rattle.wl_serial.specs.Stretch.{HasFollowed, HasRunAlong, HasStretched, RunsAny}
use Rattle.wl_serial.proofs.Beside.{below_then, later_none, later_then}
use Rattle.wl_serial.proofs.Steps.{at_alike, told_alike}
use Rattle.wl_serial.proofs.Stretches.{after_some, at_on, few_ahead, goes, later_on, ran_below}

abbrev with_next : Running → ℕ → Running
with_next r n = record { node = r.node; changes = r.changes; next = n; known = r.known }

-- if the tick of its next quantum is noted, it is where it is
pub by_quanta_is : (plan : Plan) (i k : ℕ) (r : Running) → IsAt plan i r k → by_quanta plan i r ≡ r
by_quanta_is plan i k r at = ap (with_next r) (ap (λ q. (line_of plan).instant i q) at.quanta ∙ sym at.next)

pub somewhere_by_quanta : (plan : Plan) (i : ℕ) (r : Running) → IsSomewhere plan i r → IsSomewhere plan i (by_quanta plan i r)
somewhere_by_quanta plan i r some = subst (IsSomewhere plan i) (sym (by_quanta_is plan i some.0 r some.1)) some

-- a later quantum begins later
pub quantum_later : (plan : Plan) (i a b : ℕ) → SimulationLaws → IsSound (line_of plan) → i < length plan.nodes → a < b → (line_of plan).instant i a < (line_of plan).instant i b
quantum_later plan i a b laws sound here less =
    let e = sound.causal.clocks i a here in
    let f = laws.clock_later (line_of plan) i (suc a) b sound.causal here (omega (arith, less)) in
    omega (arith, e, f)

-- by the clock of the setup at a place, the quanta below a tick are few
pub few_quanta : (plan : Plan) (i n until : ℕ) (x : NodeSetup) → IsSound (line_of plan) → i < length plan.nodes → x ≡ setup_at plan i → until ≤ plan.end
    → ((k : ℕ) → k < n → tick_of x.clock k < until) → n ≤ most_quanta
few_quanta plan i n until x sound b e ends least =
    few_ahead plan i n until sound b (λ k c. let u = ap (λ v. tick_of v.clock k) e in let g = least k c in omega (arith, u, g)) ends

-- a list that is as long as before got nothing more
nothing_more : (xs ys : List ℕ) (t : ℕ) (v : Bool) → ys ≡ (if v then xs else xs ++ t ∷ []) → ys ≡ xs → v ≡ true
nothing_more xs ys t true kept stays = refl
nothing_more xs ys t false kept stays =
    let e = ap length kept in let f = ap length stays in let g = length-append xs (t ∷ []) in absurd (omega (arith, e, f, g))

-- a node that kept its drive went over all quanta that it was to go over
pub all_gone : (r s : Node) (level before after : Level) (n most t : ℕ) (levels : List Level) (xs ys : List ℕ) → HasGone level n r s → n ≤ most → (n < most → TurnsAfter r level n)
    → ((ls : List Level) → IsNode ls r → before ≡ (history_of (node_setup r) ls).drive) → ((ls : List Level) → IsNode ls s → after ≡ (history_of (node_setup s) ls).drive)
    → ys ≡ (if same after before then xs else xs ++ t ∷ []) → ys ≡ xs → IsNode levels r → n ≡ most
all_gone r s level before after n most t levels xs ys gone few turned before_is after_is kept stays is = elim (cases_lt n most) [
  | inl less ↦
      absurd (turned less levels is
      (sym (ap (λ u. (history_of u (levels ++ replicate n level)).drive) gone.setup)
      ∙ (sym (after_is (levels ++ replicate n level) (gone.node levels is))
      ∙ (same_equal after before (nothing_more xs ys t (same after before) kept stays) ∙ before_is levels is))))
  | inr all ↦ omega (arith, few, all)
]

-- no quantum
pub followed_none : (plan : Plan) (i until : ℕ) (sight : ℕ → Level) (r : Running) → IsSomewhere plan i r → HasFollowed plan i until sight r r
followed_none plan i until sight r some = record {
  somewhere = some;
  goes = λ delay disturbed k causal run is. (k, run);
  below = λ q before. inr before;
  known = refl;
  further = later_none r;
}

-- quanta of one level, by the laws of the simulation
pub followed_on : (plan : Plan) (i k p until : ℕ) (r s : Running) (level before after : Level) → SimulationLaws → TableLaws → IsSound (line_of plan) → i < length plan.nodes → until ≤ plan.end
    → IsAt plan i (by_quanta plan i r) k → ((m : ℕ) → m ≤ p → (line_of plan).instant i (k + m) < until) → HasGone level (suc p) r.node s.node
    → ((levels : List Level) → IsNode levels r.node → before ≡ (history_of (node_setup r.node) levels).drive)
    → ((levels : List Level) → IsNode levels s.node → after ≡ (history_of (node_setup s.node) levels).drive)
    → s.changes ≡ (if same after before then r.changes else r.changes ++ (line_of plan).instant i (k + p) ∷ []) → s.known ≡ r.known
    → HasFollowed plan i until (λ t. level) (by_quanta plan i r) (by_quanta plan i s)
followed_on plan i k p until r s level before after laws table sound b ends at below gone before_is after_is kept known = record {
  somewhere = (suc (k + p), there);
  goes = λ delay disturbed n causal run found.
      let same_k : n ≡ k = sym run.at.quanta ∙ at.quanta in
      let here = subst (λ m. RunsOn plan (line_with plan delay disturbed) i (by_quanta plan i r) m) same_k run in (
        suc (k + p),
        goes plan delay disturbed i k (by_quanta plan i r) (by_quanta plan i s) level before after until p laws table causal b here
            (record {
              ends = ends;
              found = found;
              below = below;
              gone = gone;
              before_is = before_is;
              after_is = after_is;
              kept = kept;
              at = there;
            }),
      );
  below = λ q early. inl (ran_below plan i (suc (k + p)) until (by_quanta plan i s).next laws sound b next each q early);
  known = known;
  further =
      later_on (by_quanta plan i r) (by_quanta plan i s) level (suc p) ((line_of plan).instant i (k + p)) (same after before) gone kept
      (let e = at.next in let f = after_some plan i k p laws sound b in omega (arith, e, f, next));
}
  where
    next : (by_quanta plan i s).next ≡ (line_of plan).instant i (suc (k + p))
    next = ap (λ q. (line_of plan).instant i q) (let e = gone.quanta in let f = at.quanta in omega (arith, e, f))

    there : IsAt plan i (by_quanta plan i s) (suc (k + p))
    there = at_on plan i k p (by_quanta plan i r) (by_quanta plan i s) (same after before) laws sound b at gone.setup gone.quanta next kept

    each : (q : ℕ) → q < suc (k + p) → (line_of plan).instant i q < until
    each q less =
        let e = laws.clock_later (line_of plan) i q (k + p) sound.causal b (omega (arith, less)) in
        let f = below p (omega arith) in
        omega (arith, e, f)

-- quanta of one level more, which is what it sees there
pub followed_more : (plan : Plan) (i until upto : ℕ) (sight : ℕ → Level) (level : Level) (x y z : Running) → upto ≤ until → y.changes ≡ x.changes
    → ((levels : List Level) (t : ℕ) → IsNode levels x.node → y.next ≤ t → t < upto → level ≡ sight t) → HasFollowed plan i until sight x y → HasFollowed plan i upto (λ t. level) y z
    → HasFollowed plan i until sight x z
followed_more plan i until upto sight level x y z less same_changes shown one two = record {
  somewhere = two.somewhere;
  goes = λ delay disturbed k causal run is.
      let there = one.goes delay disturbed k causal run (λ t after before early told. let f = two.further.next in is t after before (omega (arith, early, f)) told) in
      two.goes delay disturbed there.0 causal there.1
      (λ t after before early told.
      let f = one.further.next in
      shown (seen (line_with plan delay disturbed) i k) t run.node after before
      ∙ is t (omega (arith, after, f)) (omega (arith, before, less)) early (subst (λ xs. OwnIsTold (line_with plan delay disturbed) i xs t) same_changes told));
  below = below_then plan i until x y z one.below (λ q early. elim (two.below q early) [
    | inl ahead ↦ inl (omega (arith, ahead, less))
    | inr ran ↦ inr ran
  ]);
  known = two.known ∙ one.known;
  further = later_then x y z one.further two.further;
}

-- the quanta that it ran are few
pub few_followed : (plan : Plan) (i until : ℕ) (x y : Running) → IsSound (line_of plan) → i < length plan.nodes → until ≤ plan.end → x.next < until → IsSomewhere plan i y → RanUpTo plan i until x y
    → quanta_of y.node ≤ most_quanta
few_followed plan i until x y sound b ends start some below = most some.0 some.1.quanta some.1.next
  where
    most : (k : ℕ) → quanta_of y.node ≡ k → y.next ≡ (line_of plan).instant i k → quanta_of y.node ≤ most_quanta
    most zero count next = omega (arith, count)
    most (suc k) count next =
        let e = sound.causal.clocks i k b in
        let inside : (line_of plan).instant i k < plan.end = elim (below k (omega (arith, next, e))) [
          | inl ahead ↦ omega (arith, ahead, ends)
          | inr ran ↦ omega (arith, ran, start, ends)
        ] in
        let f : k < most_quanta = sound.few_quanta i k b inside in
        omega (arith, count, f)

-- The tick of its next quantum is noted.
pub record HasArrived (plan : Plan) (i until : ℕ) (sight : ℕ → Level) (x z : Running) : Type 0 where
  pub somewhere : IsSomewhere plan i z
  pub goes : GoesOn plan i sight until x z
  pub below : RanBelow plan i until z
  pub further : IsLater x z

pub arrived : (plan : Plan) (i until : ℕ) (sight : ℕ → Level) (x y z : Running) → x.next < until → z.node ≡ y.node → z.changes ≡ y.changes → z.next ≡ (by_quanta plan i y).next
    → HasFollowed plan i until sight x (by_quanta plan i y) → HasArrived plan i until sight x z
arrived plan i until sight x y z start node changes next ran = record {
  somewhere = (ran.somewhere.0, at_alike plan i ran.somewhere.0 (by_quanta plan i y) z next node changes ran.somewhere.1);
  goes = λ delay disturbed k causal run is.
      let there = ran.goes delay disturbed k causal run (λ t after before early told. is t after before (omega (arith, early, next)) told) in
      (there.0, told_alike plan (line_with plan delay disturbed) i there.0 (by_quanta plan i y) z next node changes there.1);
  below = λ q early. elim (ran.below q (omega (arith, early, next))) [
    | inl ahead ↦ ahead
    | inr before ↦ omega (arith, before, start)
  ];
  further = record {
    setup = ap node_setup node ∙ ran.further.setup;
    node = λ levels is. let on = ran.further.node levels is in (on.0, subst (IsNode (levels ++ on.0)) (sym node) on.1);
    changes = (ran.further.changes.0, changes ∙ ran.further.changes.1);
    next = (let e = ran.further.next in omega (arith, e, next));
    keeps = ap keeps_lists node ∙ ran.further.keeps;
  };
}

-- a node that has not run yet
pub along_none : (plan : Plan) (j delay i until : ℕ) (rs : List Running) (x : Running) → i < length rs → IsSomewhere plan i (get_or rs i x) → HasRunAlong plan j delay i until rs rs
along_none plan j delay i until rs x b some = record {
  r = get_or rs i x;
  is = sym (set-get_or rs i x);
  ran = λ d.
      subst (λ y. HasFollowed plan i until (λ t. level_of (drove (get_or rs j d).changes delay t)) y (by_quanta plan i (get_or rs i x))) (get_or_default rs i x d b)
      (subst (HasFollowed plan i until (λ t. level_of (drove (get_or rs j d).changes delay t)) (get_or rs i x)) (sym (by_quanta_is plan i some.0 (get_or rs i x) some.1))
      (followed_none plan i until (λ t. level_of (drove (get_or rs j d).changes delay t)) (get_or rs i x) some));
}

-- up to the next change that arrives
pub along_more : (plan : Plan) (j delay i until upto : ℕ) (old rs : List Running) (x y s : Running) (from : ℕ) (dominant : Bool) (level : Level) → i < length old → j < length old → i ≢ j
    → HasRunAlong plan j delay i until old rs → ((d : Running) → (get_or rs i d).changes ≡ (get_or old i d).changes)
    → ((d : Running) (levels : List Level) → IsNode levels (get_or old i d).node → from ≤ (by_quanta plan i (get_or rs i d)).next) → level ≡ level_of (dominant || false)
    → ((t : ℕ) → from ≤ t → t < upto → drove (get_or rs j y).changes delay t ≡ dominant) → upto ≤ until
    → HasFollowed plan i upto (λ t. level) (by_quanta plan i (get_or rs i x)) (by_quanta plan i s) → HasRunAlong plan j delay i until old (set rs i s)
along_more plan j delay i until upto old rs x y s from dominant level b c ne one told reached is pulse less two = record {
  r = s;
  is = ap (λ xs. set xs i s) one.is ∙ set-set old i one.r s;
  ran = λ d.
      followed_more plan i until upto (λ t. level_of (drove (get_or old j d).changes delay t)) level (get_or old i d) (by_quanta plan i (get_or rs i x)) (by_quanta plan i s) less
      (ap (λ r. r.changes) (here x d) ∙ told d)
      (λ levels t node after before.
      let e = reached d levels node in
      let f = ap (λ r. (by_quanta plan i r).next) (here x d) in
      is ∙ ap level_of (or-false dominant ∙ (sym (pulse t (omega (arith, after, e, f)) before) ∙ ap (λ xs. drove xs delay t) (sender d))))
      (subst (λ r. HasFollowed plan i until (λ t. level_of (drove (get_or old j d).changes delay t)) (get_or old i d) (by_quanta plan i r)) (sym (at_place x)) (one.ran d))
      two;
}
  where
    at_place : (d : Running) → get_or rs i d ≡ one.r
    at_place d = ap (λ xs. get_or xs i d) one.is ∙ get_or-set_same old i one.r d b

    here : (d e : Running) → get_or rs i d ≡ get_or rs i e
    here d e = at_place d ∙ sym (at_place e)

    sender : (d : Running) → (get_or rs j y).changes ≡ (get_or old j d).changes
    sender d = ap (λ r. r.changes) (ap (λ xs. get_or xs j y) one.is ∙ (get_or-set_other old i j one.r y (λ e. ne (sym e)) ∙ get_or_default old j y d c))

module _ (plan : Plan) (j delay i until : ℕ) (old rs : List Running) (b : i < length old) (one : HasRunAlong plan j delay i until old rs) where
  pub along_length : length rs ≡ length old
  along_length = ap length one.is ∙ length-set old i one.r

  pub along_set : (z : Running) → set rs i z ≡ set old i z
  along_set z = ap (λ xs. set xs i z) one.is ∙ set-set old i one.r z

  -- it ran few quanta
  pub along_few : (x : Running) → IsSound (line_of plan) → i < length plan.nodes → until ≤ plan.end → RunsBelow until old i → quanta_of (get_or rs i x).node ≤ most_quanta
  along_few x sound node ends start =
      subst (λ r. quanta_of r.node ≤ most_quanta) (sym (ap (λ xs. get_or xs i x) one.is ∙ get_or-set_same old i one.r x b))
      (few_followed plan i until (get_or old i x) (by_quanta plan i one.r) sound node ends (start x) (one.ran x).somewhere (one.ran x).below)

  -- the other node is where it was
  pub along_other : (y : Running) → i ≢ j → get_or rs j y ≡ get_or old j y
  along_other y ne = ap (λ xs. get_or xs j y) one.is ∙ get_or-set_other old i j one.r y (λ e. ne (sym e))

  along_place : (d e : Running) → get_or rs i d ≡ get_or rs i e
  along_place d e = get_or_default rs i d e (omega (arith, b, along_length))

  -- its own node, after the levels that it has seen since
  pub along_seen : (d x : Running) (levels : List Level) → IsNode levels (get_or old i d).node → (more : List Level) × IsNode (levels ++ more) (get_or rs i x).node
  along_seen d x levels is =
      let on = (one.ran d).further.node levels is in
      (on.0, subst (λ r. IsNode (levels ++ on.0) r.node) (sym (ap (λ xs. get_or xs i x) one.is ∙ get_or-set_same old i one.r x b)) on.1)

  -- its next quantum is later
  pub along_later : (from upto : ℕ) (x s d : Running) → from < upto → (by_quanta plan i (get_or rs i x)).next ≤ (by_quanta plan i s).next
      → RunsAny upto (by_quanta plan i (get_or rs i x)) (by_quanta plan i s)
      → ((get_or old i d).next < (by_quanta plan i (get_or rs i d)).next) ⊎ (from ≡ (get_or old i d).next) → (get_or old i d).next < (by_quanta plan i (get_or (set rs i s) i d)).next
  along_later from upto x s d more later any was =
      let e = ap (λ r. (by_quanta plan i r).next) (get_or-set_same rs i s d (let f = along_length in omega (arith, b, f))) in
      let f = ap (λ r. (by_quanta plan i r).next) (along_place d x) in
      elim was [
        | inl ran ↦ omega (arith, e, f, ran, later)
        | inr first ↦ elim (cases_lt (by_quanta plan i (get_or rs i x)).next upto) [
          | inl below ↦
              (let g = any below in
              let h = (one.ran d).further.next in
              let k = ap (λ r. (by_quanta plan i r).next) (ap (λ xs. get_or xs i x) one.is ∙ get_or-set_same old i one.r x b) in
              omega (arith, e, g, h, k))
          | inr past ↦ omega (arith, e, first, more, past, later)
        ]
      ]

-- by what all have told, if the other node alone is heard
pub along_stretched : (plan : Plan) (j delay i until : ℕ) (old new : List Running) (x z : Running) → i < length old → RunsBelow until old i → HearsOnly plan old j i until
    → HasRunAlong plan j delay i until old new → delay ≡ delay_of plan.topology j i → ((d : Running) → (get_or old i d).next < (by_quanta plan i (get_or new i d)).next)
    → z.node ≡ (get_or new i x).node → z.changes ≡ (get_or new i x).changes → z.next ≡ (by_quanta plan i (get_or new i x)).next → z.next ≤ z.known
    → (z.known ≤ (get_or new i x).known) ⊎ (z.known ≤ z.next) → HasStretched plan i until old (set new i z)
along_stretched plan j delay i until old new x z b start only went same_delay later node changes next promised known = record {
  r = z;
  is = ap (λ xs. set xs i z) ran.is ∙ set-set old i ran.r z;
  somewhere = (there z).somewhere;
  goes = λ d delay disturbed k causal run is.
      (there d).goes delay disturbed k causal run (λ t after before early told. sym (ap level_of (only d t after before)) ∙ is t after before early told);
  below = (there z).below;
  known = λ d. record {
    promised = λ was. promised;
    known = elim known [
      | inl old ↦ (let e = ap (λ r. r.known) (place x) in let f = (ran.ran d).known in inl (omega (arith, old, e, f)))
      | inr new ↦ inr new
    ];
  };
  further = λ d. (there d).further;
  later = λ d. let e = later d in let f = ap (λ r. (by_quanta plan i r).next) (place d ∙ sym (place x)) in omega (arith, e, f, next);
}
  where
    ran : HasRunAlong plan j (delay_of plan.topology j i) i until old new
    ran = subst (λ n. HasRunAlong plan j n i until old new) same_delay went

    place : (d : Running) → get_or new i d ≡ ran.r
    place d = ap (λ xs. get_or xs i d) ran.is ∙ get_or-set_same old i ran.r d b

    there : (d : Running) → HasArrived plan i until (λ t. level_of (drove (get_or old j d).changes (delay_of plan.topology j i) t)) (get_or old i d) z
    there d =
        arrived plan i until (λ t. level_of (drove (get_or old j d).changes (delay_of plan.topology j i) t)) (get_or old i d) (get_or new i x) z (start d) node changes next
        (subst (λ r. HasFollowed plan i until (λ t. level_of (drove (get_or old j d).changes (delay_of plan.topology j i) t)) (get_or old i d) (by_quanta plan i r)) (sym (place x)) (ran.ran d))
