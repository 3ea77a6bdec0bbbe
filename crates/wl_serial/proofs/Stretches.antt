-- What a stretch of quanta of one level does to a node that runs, by the laws of the simulation.
use Rattle.std.proofs.Common.{◌≡◌, ℕ, suc, zero, ◌+◌, ◌<◌, ◌≤◌, Bool, true, false, inl, inr, List, [], ◌∷◌, ◌++◌, take, length, replicate, append_assoc, append-nil, add-one, add-zero, refl, sym, ◌∙◌, ap, subst, arith, if◌then◌else◌, All}
use Rattle.std.proofs.lemmas.Bool.{cases_lt}
use Rattle.std.proofs.lemmas.List.{replicate_more}
use Rattle.std.proofs.lemmas.List.Elements.{All-append, All-cons}
use Rattle.std.proofs.lemmas.Option.{get_or_from_slice_get, slice_get_within}
use Rattle.std.proofs.Math.Seq.{take-suc}
use Rattle.wl_level.specs.declared.Level.{Level}
use Rattle.wl_level.specs.declared.Level.TheVariants.{Dominant, Recessive}
use Rattle.wl_level.specs.Levels.{is_dominant, same}
use Rattle.wl_record_core.specs.Truth.{AllAbove, IsIncreasing, count_below}
use Rattle.wl_record_core.specs.TableLaws.{TableLaws}
use Rattle.wl_node.specs.History.{history_of}
use Rattle.wl_node.specs.Reached.{IsNode, node_setup, quanta_of, HasGone}
use Rattle.wl_plan.specs.declared.plan.Plan.{Plan}
use Rattle.wl_plan.specs.Limits.{most_quanta}
use Rattle.wl_plan.specs.Line.{Line}
use Rattle.wl_plan.specs.PlanLine.{line_of}
use Rattle.wl_plan.specs.Simulation.{seen, changes, differs, AreInside}
use Rattle.wl_plan.specs.SimulationLaws.{SimulationLaws}
use Rattle.wl_plan.specs.Sound.{IsCausal, IsSound}
use Rattle.wl_serial.specs.declared.running_node.Running.{Running}
use Rattle.wl_serial.specs.Running.{IsAt, IsLater, OwnIsTold, RunsOn, finds, line_with}
use Rattle.wl_serial.proofs.Found.{own_on}

-- one quantum more stands below the end
pub inside_more : (l : Line) (i k : ℕ) → AreInside l i k → l.instant i k < l.stop → AreInside l i (suc k)
inside_more l i k inside h j b =
    elim (cases_lt j k) [
      | inl below ↦ inside j below
      | inr last ↦ (let e : k ≡ j = omega arith in subst (λ v. l.instant i v < l.stop) e h)
    ]

differs_is : (a b : Level) (v : Bool) → same a b ≡ v → differs (is_dominant a) (is_dominant b) ≡ (if v then false else true)
differs_is Dominant Dominant v h = ap (λ w. if w then false else true) h
differs_is Dominant Recessive v h = ap (λ w. if w then false else true) h
differs_is Recessive Dominant v h = ap (λ w. if w then false else true) h
differs_is Recessive Recessive v h = ap (λ w. if w then false else true) h

-- the changes below the next quantum, where the drive changes and where not
abbrev known : Line → ℕ → ℕ → List ℕ
known l i k = take (count_below (l.instant i k) (changes l i)) (changes l i)

known_more : (l : Line) (i k : ℕ) → SimulationLaws → IsCausal l → i < l.nodes → AreInside l i (suc k)
    → differs (l.drives i (seen l i (suc k))) (l.drives i (seen l i k)) ≡ true → known l i (suc k) ≡ known l i k ++ l.instant i k ∷ []
known_more l i k laws causal b inside turns =
    let t = laws.turn l i k causal b inside turns in
    let m : ℕ = count_below (l.instant i k) (changes l i) in
    ap (λ n. take n (changes l i)) t.1
    ∙ (take-suc (changes l i) m 0 (slice_get_within (changes l i) m (l.instant i k) t.0)
    ∙ ap (λ x. take m (changes l i) ++ x ∷ []) (get_or_from_slice_get (changes l i) m (l.instant i k) 0 t.0))

known_same : (l : Line) (i k : ℕ) → SimulationLaws → IsCausal l → i < l.nodes → AreInside l i (suc k)
    → differs (l.drives i (seen l i (suc k))) (l.drives i (seen l i k)) ≡ false → known l i (suc k) ≡ known l i k
known_same l i k laws causal b inside stays = ap (λ n. take n (changes l i)) (laws.no_turn l i k causal b inside stays)

seen_more : (l : Line) (i k : ℕ) → seen l i (suc k) ≡ seen l i k ++ finds l i (l.instant i k) ∷ []
unfolding seen
seen_more l i k = refl

same_drives : (x y : Bool) → x ≡ y → differs x y ≡ false
same_drives true y e = ap (λ v. if v then false else true) (sym e)
same_drives false y e = sym e

-- What a stretch did: the node went over n quanta of this level, below a tick up to which it finds that, as long as its drive stays.
pub record IsStretch (plan : Plan) (l : Line) (i k : ℕ) (r s : Running) (level before after : Level) (until p : ℕ) : Type 0 where
  pub ends : until ≤ plan.end
  pub found : (t : ℕ) → r.next ≤ t → t < until → t < s.next → OwnIsTold l i r.changes t → level ≡ finds l i t
  pub below : (m : ℕ) → m ≤ p → l.instant i (k + m) < until
  pub gone : HasGone level (suc p) r.node s.node
  pub before_is : (levels : List Level) → IsNode levels r.node → before ≡ (history_of (node_setup r.node) levels).drive
  pub after_is : (levels : List Level) → IsNode levels s.node → after ≡ (history_of (node_setup s.node) levels).drive
  pub kept : s.changes ≡ (if same after before then r.changes else r.changes ++ l.instant i (k + p) ∷ [])
  pub at : IsAt plan i s (suc (k + p))

module _ (plan : Plan) (delay : ℕ → ℕ → ℕ) (disturbed : ℕ → ℕ → Bool) (i k : ℕ) (r s : Running) (level before after : Level) (until p : ℕ) (laws : SimulationLaws) (table : TableLaws)
    (causal : IsCausal (line_with plan delay disturbed)) (b : i < length plan.nodes) (run : RunsOn plan (line_with plan delay disturbed) i r k)
    (went : IsStretch plan (line_with plan delay disturbed) i k r s level before after until p) where
  abbrev l : Line
  l = line_with plan delay disturbed

  -- after m quanta of it, which all found the level; before the last of them the drive stood
  record Gone (m : ℕ) : Type 0 where
    seen_now : seen l i (k + m) ≡ seen l i k ++ replicate m level
    inside : AreInside l i (k + m)
    count : m ≤ p → count_below (l.instant i (k + m)) (changes l i) ≡ count_below (l.instant i k) (changes l i)

  drive_then : (m : ℕ) → m ≤ p → Gone m → l.drives i (seen l i (k + m)) ≡ l.drives i (seen l i k)
  drive_then m h g =
      ap (λ levels. l.drives i levels) g.seen_now
      ∙ ap is_dominant (ap (λ u. (history_of u (seen l i k ++ replicate m level)).drive) (sym run.at.setup)
      ∙ (went.gone.stood m (omega (arith, h)) (seen l i k) run.node
      ∙ ap (λ u. (history_of u (seen l i k)).drive) run.at.setup))

  found_then : (m : ℕ) → m ≤ p → Gone m → level ≡ finds l i (l.instant i (k + m))
  found_then m h g =
      let later = laws.clock_later l i k (k + m) causal b (omega arith) in
      let last = laws.clock_later l i (k + m) (k + p) causal b (omega (arith, h)) in
      let more = causal.clocks i (k + p) b in
      let here = l.instant i (k + m) in
      let old = run.at.next in
      let new = went.at.next in
      let c = g.count h in
      went.found here (omega (arith, later, old)) (went.below m h) (omega (arith, last, more, new))
      (own_on l i here (count_below (l.instant i k) (changes l i)) r.changes laws table causal b run.changes (omega (arith, c)))

  one_more : (m : ℕ) → m ≤ p → Gone m → Gone (suc m)
  one_more m h g = record { seen_now = seen_then; inside = inside; count = count }
    where
      e : k + suc m ≡ suc (k + m)
      e = omega arith

      seen_then : seen l i (k + suc m) ≡ seen l i k ++ replicate (suc m) level
      seen_then =
          ap (λ n. seen l i n) e
          ∙ (seen_more l i (k + m)
          ∙ (ap (λ levels. levels ++ finds l i (l.instant i (k + m)) ∷ []) g.seen_now
          ∙ (ap (λ x. (seen l i k ++ replicate m level) ++ x ∷ []) (sym (found_then m h g))
          ∙ (append_assoc (seen l i k) (replicate m level) (level ∷ [])
          ∙ ap (λ levels. seen l i k ++ levels) (replicate_more m level ∙ ap (λ n. replicate n level) (add-one m))))))

      inside_next : AreInside l i (suc (k + m))
      inside_next = inside_more l i (k + m) g.inside (let f = went.below m h in let g = went.ends in omega (arith, f, g))

      inside : AreInside l i (k + suc m)
      inside = subst (λ n. AreInside l i n) (sym e) inside_next

      drive_next : suc m ≤ p → l.drives i (seen l i (suc (k + m))) ≡ l.drives i (seen l i k)
      drive_next c =
          ap (λ n. l.drives i (seen l i n)) (sym e)
          ∙ (ap (λ levels. l.drives i levels) seen_then
          ∙ ap is_dominant (ap (λ u. (history_of u (seen l i k ++ replicate (suc m) level)).drive) (sym run.at.setup)
          ∙ (went.gone.stood (suc m) (omega (arith, c)) (seen l i k) run.node
          ∙ ap (λ u. (history_of u (seen l i k)).drive) run.at.setup)))

      count : suc m ≤ p → count_below (l.instant i (k + suc m)) (changes l i) ≡ count_below (l.instant i k) (changes l i)
      count c =
          ap (λ n. count_below (l.instant i n) (changes l i)) e
          ∙ (laws.no_turn l i (k + m) causal b inside_next (same_drives _ _ (drive_next c ∙ sym (drive_then m h g)))
          ∙ g.count h)

  gone : (m : ℕ) → m ≤ suc p → Gone m
  gone zero h = record {
    seen_now = ap (λ n. seen l i n) (add-zero k) ∙ sym (append-nil (seen l i k));
    inside = subst (λ n. AreInside l i n) (sym (add-zero k)) run.inside;
    count = λ c. ap (λ n. count_below (l.instant i n) (changes l i)) (add-zero k);
  }
  gone (suc m) h = one_more m (omega (arith, h)) (gone m (omega (arith, h)))

  pub goes : RunsOn plan l i s (suc (k + p))
  goes = record {
    at = went.at;
    inside = inside;
    node = node;
    changes = keeps (same after before) refl;
  }
    where
      last : Gone p
      last = gone p (omega arith)

      e : k + suc p ≡ suc (k + p)
      e = omega arith

      inside : AreInside l i (suc (k + p))
      inside = subst (λ n. AreInside l i n) e (gone (suc p) (omega arith)).inside

      node : IsNode (seen l i (suc (k + p))) s.node
      node =
          subst (λ levels. IsNode levels s.node) (sym (gone (suc p) (omega arith)).seen_now ∙ ap (λ n. seen l i n) e)
          (went.gone.node (seen l i k) run.node)

      drive_before : is_dominant before ≡ l.drives i (seen l i (k + p))
      drive_before =
          ap is_dominant (went.before_is (seen l i k) run.node ∙ ap (λ u. (history_of u (seen l i k)).drive) run.at.setup) ∙ sym (drive_then p (omega arith) last)

      drive_after : is_dominant after ≡ l.drives i (seen l i (suc (k + p)))
      drive_after = ap is_dominant (went.after_is (seen l i (suc (k + p))) node ∙ ap (λ u. (history_of u (seen l i (suc (k + p)))).drive) (went.gone.setup ∙ run.at.setup))

      turns : (v : Bool) → same after before ≡ v → differs (l.drives i (seen l i (suc (k + p)))) (l.drives i (seen l i (k + p))) ≡ (if v then false else true)
      turns v f = rw (← drive_after, ← drive_before) (differs_is after before v f)

      so_far : r.changes ≡ known l i (k + p)
      so_far = run.changes ∙ ap (λ n. take n (changes l i)) (sym (last.count (omega arith)))

      keeps : (v : Bool) → same after before ≡ v → s.changes ≡ known l i (suc (k + p))
      keeps true f =
          (went.kept ∙ ap (λ v. if v then r.changes else r.changes ++ l.instant i (k + p) ∷ []) f)
          ∙ (so_far ∙ sym (known_same l i (k + p) laws causal b inside (turns true f)))
      keeps false f =
          (went.kept ∙ ap (λ v. if v then r.changes else r.changes ++ l.instant i (k + p) ∷ []) f)
          ∙ (ap (λ xs. xs ++ l.instant i (k + p) ∷ []) so_far
          ∙ sym (known_more l i (k + p) laws causal b inside (turns false f)))

-- the quanta below a tick are few
pub few_ahead : (plan : Plan) (i n until : ℕ) → IsSound (line_of plan) → i < length plan.nodes → ((k : ℕ) → k < n → (line_of plan).instant i k < until) → until ≤ plan.end → n ≤ most_quanta
few_ahead plan i zero until sound b below ends = omega arith
few_ahead plan i (suc n) until sound b below ends =
    let h = below n (omega arith) in
    let f : n < most_quanta = sound.few_quanta i n b (omega (arith, h, ends)) in
    omega (arith, f)

pub after_some : (plan : Plan) (i k p : ℕ) → SimulationLaws → IsSound (line_of plan) → i < length plan.nodes → (line_of plan).instant i k < (line_of plan).instant i (suc (k + p))
after_some plan i k p laws sound b =
    let e = laws.clock_later (line_of plan) i k (k + p) sound.causal b (omega arith) in
    let f = sound.causal.clocks i (k + p) b in
    omega (arith, e, f)

-- ticks in order, and one more after them
increases_more : (xs : List ℕ) (t u : ℕ) → IsIncreasing xs → All (λ x. x < t) xs → t ≤ u → IsIncreasing (xs ++ u ∷ [])
increases_more [] t u order below later = (tt, tt)
increases_more (x ∷ xs) t u order below later =
    (above_more xs (order.0) (let h = below 0 0 (omega arith) in omega (arith, h, later)), increases_more xs t u order.1 (λ k d b. below (suc k) d (omega (arith, b))) later)
  where
    above_more : (ys : List ℕ) → AllAbove x ys → x < u → AllAbove x (ys ++ u ∷ [])
    above_more [] all less = (less, tt)
    above_more (y ∷ ys) all less = (all.0, above_more ys all.1 less)

below_later : (xs : List ℕ) (t u : ℕ) → All (λ x. x < t) xs → t ≤ u → All (λ x. x < u) xs
below_later xs t u below later k d b = (let h = below k d b in omega (arith, h, later))

below_more : (xs : List ℕ) (t u v : ℕ) → All (λ x. x < t) xs → t ≤ v → u < v → All (λ x. x < v) (xs ++ u ∷ [])
below_more xs t u v below later last = All-append (λ x. x < v) xs (u ∷ []) (below_later xs t v below later) (All-cons (λ x. x < v) u [] last (λ k d b. absurd (omega (arith, b))))

-- after quanta more, the last of which may have changed the drive, the changes are in order still
pub order_on : (xs : List ℕ) (t u v : ℕ) (x : Bool) → IsIncreasing xs → All (λ y. y < t) xs → t ≤ u → u < v
    → (IsIncreasing (if x then xs else xs ++ u ∷ [])) × All (λ y. y < v) (if x then xs else xs ++ u ∷ [])
order_on xs t u v true order below later last = (order, below_later xs t v below (omega (arith, later, last)))
order_on xs t u v false order below later last = (increases_more xs t u order below later, below_more xs t u v below (omega (arith, later, last)) last)

-- the quanta that were run are below a tick that each of them is below
pub ran_below : (plan : Plan) (i n until next : ℕ) → SimulationLaws → IsSound (line_of plan) → i < length plan.nodes → next ≡ (line_of plan).instant i n
    → ((q : ℕ) → q < n → (line_of plan).instant i q < until) → (q : ℕ) → (line_of plan).instant i q < next → (line_of plan).instant i q < until
ran_below plan i n until next laws sound b is each q before = elim (cases_lt q n) [
  | inl ran ↦ each q ran
  | inr past ↦ (let f = laws.clock_later (line_of plan) i n q sound.causal b past in absurd (omega (arith, f, before, is)))
]

-- where the node is then
pub at_on : (plan : Plan) (i k p : ℕ) (r s : Running) (x : Bool) → SimulationLaws → IsSound (line_of plan) → i < length plan.nodes → IsAt plan i r k → node_setup s.node ≡ node_setup r.node
    → quanta_of s.node ≡ quanta_of r.node + suc p → s.next ≡ (line_of plan).instant i (suc (k + p))
    → s.changes ≡ (if x then r.changes else r.changes ++ (line_of plan).instant i (k + p) ∷ []) → IsAt plan i s (suc (k + p))
at_on plan i k p r s x laws sound b at setup quanta next changes =
    let old = at.next in
    let later = laws.clock_later (line_of plan) i k (k + p) sound.causal b (omega arith) in
    let last = sound.causal.clocks i (k + p) b in
    let both = order_on r.changes r.next ((line_of plan).instant i (k + p)) s.next x at.order at.below (omega (arith, old, later)) (omega (arith, next, last)) in
    record {
      setup = setup ∙ at.setup;
      quanta = (let e = at.quanta in omega (arith, quanta, e));
      next = next;
      order = subst IsIncreasing (sym changes) both.0;
      below = subst (All (λ t. t < s.next)) (sym changes) both.1;
    }

more_kept : (xs : List ℕ) (t : ℕ) (x : Bool) → (more : List ℕ) × ((if x then xs else xs ++ t ∷ []) ≡ xs ++ more)
more_kept xs t true = ([], sym (append-nil xs))
more_kept xs t false = (t ∷ [], refl)

-- and later
pub later_on : (r s : Running) (level : Level) (n t : ℕ) (x : Bool) → HasGone level n r.node s.node → s.changes ≡ (if x then r.changes else r.changes ++ t ∷ []) → r.next ≤ s.next → IsLater r s
later_on r s level n t x gone changes next = record {
  setup = gone.setup;
  node = λ levels h. (replicate n level, gone.node levels h);
  changes = (let m = more_kept r.changes t x in (m.0, changes ∙ m.1));
  next = next;
  keeps = gone.keeps;
}
