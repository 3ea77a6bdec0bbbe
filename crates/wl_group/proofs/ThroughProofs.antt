-- Quanta of a member in a row, through one stretch of the line after another: where they take the node, and that the group is one after them.
use Rattle.std.proofs.Common.{◌≡◌, ℕ, suc, ◌+◌, ◌-◌, ◌<◌, ◌≤◌, Bool, true, false, inl, inr, List, [], ◌∷◌, ◌++◌, length, All, nat_lt, slice_index_or, refl, sym, ◌∙◌, ap, subst, arith, if◌then◌else◌}
use Rattle.std.proofs.lemmas.Bool.{cases_lt, cases_Bool, cond-true, cond-false}
use Rattle.std.specs.Prelude.{slice_set, min, Contains}
use Rattle.std.specs.List.{AllByRecursion}
use Rattle.std.proofs.lemmas.List.Elements.{All-from_recursion}
use Rattle.std.proofs.lemmas.List.{get_or-set_same, get_or-set_other}
use Rattle.std.proofs.Math.ListN.{length-set}
use Rattle.std.proofs.lemmas.List.Sums.{count_by-le-length}
use Rattle.wl_level.specs.declared.Level.{Level}
use Rattle.wl_level.specs.Levels.{level_of}
use Rattle.wl_record_core.specs.declared.record.Record.{Record}
use Rattle.wl_record_core.specs.declared.record.Record.TheVariants.{Edge, Silence}
use Rattle.wl_record_core.specs.Limits.{most_edges}
use Rattle.wl_record_core.specs.Truth.{count_below}
use Rattle.wl_clock.specs.Timing.{tick_of}
use Rattle.wl_record_core.specs.declared.record.Slot.TheVariants.{SilenceAt}
use Rattle.wl_record_core.specs.Slots.{slot_of}
use Rattle.wl_node.specs.declared.setup.NodeSetup.{NodeSetup}
use Rattle.wl_node.specs.Reached.{node_setup, quanta_of}
use Rattle.wl_plan.specs.declared.plan.Plan.{Plan}
use Rattle.wl_plan.specs.Limits.{most_quanta}
use Rattle.wl_plan.specs.Line.{Line, found, reach}
use Rattle.wl_plan.specs.PlanLine.{setup_at, line_of, table_of}
use Rattle.wl_plan.specs.Simulation.{level, seen, differs, changes, AreInside}
use Rattle.wl_plan.specs.SimulationLaws.{SimulationLaws}
use Rattle.wl_plan.specs.Sound.{IsSound}
use Rattle.wl_pulse.specs.declared.pulse.Pulse.{Pulse}
use Rattle.wl_group.specs.declared.cell.Cell.{Cell}
use Rattle.wl_group.specs.Heard.{IsStretch, no_stretch}
use Rattle.wl_group.specs.Member.{Member, next_tick, turns, member_after_quantum, emission}
use Rattle.wl_group.specs.Kept.{IsCell}
use Rattle.wl_group.specs.Running.{IsCellOf, passed, slots_ahead, Stood, HasGone, HasNotGone}
use Rattle.wl_group.specs.GroupValue.{member_after}
use Rattle.wl_group.specs.Through.{spoken, turned_at, said_last, AreAhead, Stays, HasGoneIn, HasGoneOver}
use Rattle.wl_group.proofs.GoingProofs.{Finds, passed_is}

-- ---- one quantum, by the simulation alone

differs_no : (a b : Bool) → differs a b ≡ false → a ≡ b
differs_no true true h = refl
differs_no true false h = absurd cc
differs_no false true h = absurd cc
differs_no false false h = refl

module _ (sims : SimulationLaws) (l : Line) (s : IsSound l) (i : ℕ) (b : i < l.nodes) (q : ℕ) (inside : AreInside l i (suc q)) where
  -- the level that it finds
  here : Level
  here = level_of (found l (level l) i (l.instant i q))

  saw_next : seen l i q ++ here ∷ [] ≡ seen l i (suc q)
  unfolding seen here
  saw_next = refl

  turn_is : turns l i (member_after l i q) (level_of (found l (level l) i (l.instant i q))) ≡ differs (l.drives i (seen l i (suc q))) (l.drives i (seen l i q))
  unfolding here
  turn_is = ap (λ xs. differs (l.drives i xs) (l.drives i (seen l i q))) saw_next

  count_next : (member_after_quantum l i (member_after l i q) (level_of (found l (level l) i (l.instant i q)))).changed ≡ count_below (l.instant i (suc q)) (changes l i)
  count_next = elim (cases_Bool (turns l i (member_after l i q) (level_of (found l (level l) i (l.instant i q))))) [
    | inl y ↦ cond-true (turns l i (member_after l i q) (level_of (found l (level l) i (l.instant i q)))) _ _ y ∙ sym (sims.turn l i q s.causal b inside (sym turn_is ∙ y)).1
    | inr n ↦ cond-false (turns l i (member_after l i q) (level_of (found l (level l) i (l.instant i q)))) _ _ n ∙ sym (sims.no_turn l i q s.causal b inside (sym turn_is ∙ n))
  ]

  -- the member after it is that of the simulation
  pub next_is : member_after_quantum l i (member_after l i q) (level_of (found l (level l) i (l.instant i q))) ≡ member_after l i (suc q)
  unfolding here
  next_is = λ d. record { saw = saw_next d; changed = count_next d }

  -- where it says no change, its drive stayed, and so did the count
  pub stays_next : turns l i (member_after l i q) (level_of (found l (level l) i (l.instant i q))) ≡ false
      → (l.drives i (seen l i (suc q)) ≡ l.drives i (seen l i q)) × ((member_after l i (suc q)).changed ≡ (member_after l i q).changed)
  stays_next n = (differs_no (l.drives i (seen l i (suc q))) (l.drives i (seen l i q)) (sym turn_is ∙ n), sims.no_turn l i q s.causal b inside (sym turn_is ∙ n))

-- ---- a piece of a row: quanta in one stretch

module _ (sims : SimulationLaws) where
  module _ (plan : Plan) (s : IsSound (line_of plan)) (i : ℕ) (b : i < length plan.nodes) (old new : Cell) (turned : Bool) (level_here : Level) (most end : ℕ)
      (cell : IsCell plan i old) (gone : HasGone level_here most old new turned)
      (finds : Finds (line_of plan) i level_here (quanta_of old.node) most)
      (early : (j : ℕ) → j < most → (line_of plan).instant i (quanta_of old.node + j) < end)
      (inside : AreInside (line_of plan) i (quanta_of old.node + most)) where
    held : IsCellOf plan i (member_after (line_of plan) i (quanta_of old.node)) old
    held = record { setup = cell.setup; node = cell.node; changed = cell.changed; next = cell.next; ways = cell.ways }

    stood : Stood (line_of plan) i (member_after (line_of plan) i (quanta_of old.node)) level_here gone.n
    stood = gone.stood plan i (member_after (line_of plan) i (quanta_of old.node)) held

    passed_here : passed (member_after (line_of plan) i (quanta_of old.node)) level_here gone.n ≡ member_after (line_of plan) i (quanta_of old.node + gone.n)
    passed_here =
        passed_is sims (line_of plan) s i b level_here (quanta_of old.node) gone.n (λ j c. finds j (let f = gone.few in omega arith))
        (λ j c. inside j (let f = gone.few in omega arith)) stood

    level_is : level_here ≡ level_of (found (line_of plan) (level (line_of plan)) i ((line_of plan).instant i (quanta_of old.node + gone.n)))
    level_is = sym (finds gone.n gone.few)

    last_inside : AreInside (line_of plan) i (suc (quanta_of old.node + gone.n))
    last_inside j c = inside j (let f = gone.few in omega arith)

    after_is : IsCellOf plan i (member_after (line_of plan) i (suc (quanta_of old.node + gone.n))) new
    after_is =
        let l = line_of plan in
        let q = quanta_of old.node + gone.n in
        subst (λ m. IsCellOf plan i m new)
        (ap (λ m. member_after_quantum l i m level_here) passed_here ∙ (ap (member_after_quantum l i (member_after l i q)) level_is ∙ next_is sims l s i b q last_inside))
        (gone.after plan i (member_after l i (quanta_of old.node)) held)

    new_cell : IsCell plan i new
    new_cell =
        let e : suc (quanta_of old.node + gone.n) ≡ quanta_of new.node = (let g = gone.quanta in omega arith) in
        let at : IsCellOf plan i (member_after (line_of plan) i (quanta_of new.node)) new = subst (λ k. IsCellOf plan i (member_after (line_of plan) i k) new) e after_is in
        record { setup = at.setup; node = at.node; changed = at.changed; next = at.next; ways = at.ways }

    last_is : quanta_of new.node - 1 ≡ quanta_of old.node + gone.n
    last_is = (let g = gone.quanta in omega arith)

    pub gone_in : HasGoneIn plan i end old new turned
    gone_in = record {
      over = record {
        n = gone.n;
        quanta = gone.quanta;
        keeps = gone.keeps;
        early = λ j c. early j (let f = gone.few in omega arith);
        stays = record {
          drive = ap (λ (m : Member). (line_of plan).drives i m.saw) (sym passed_here) ∙ stood gone.n (omega arith);
          changed = ap (λ (m : Member). m.changed) (sym passed_here);
        };
        after = new_cell;
        says = ap (spoken (line_of plan) i) last_is;
      };
      turned_is =
          gone.turned_is plan i (member_after (line_of plan) i (quanta_of old.node)) held
          ∙ (ap (λ m. turns (line_of plan) i m level_here) passed_here
          ∙ (ap (turns (line_of plan) i (member_after (line_of plan) i (quanta_of old.node + gone.n))) level_is
          ∙ ap (turned_at (line_of plan) i) (sym last_is)));
    }

  -- ---- pieces one after another

  module _ (plan : Plan) (s : IsSound (line_of plan)) (i : ℕ) (b : i < length plan.nodes) (end : ℕ) (stop : end ≤ plan.end) (old mid : Cell) (turned : Bool)
      (cell : IsCell plan i old) (inside_old : AreInside (line_of plan) i (quanta_of old.node)) (gone : HasGoneIn plan i end old mid turned) where
    first : HasGoneOver plan i end old mid (said_last plan i mid)
    first = gone.over

    -- all its quanta are before the end
    pub inside_mid : AreInside (line_of plan) i (quanta_of mid.node)
    inside_mid j c = elim (cases_lt j (quanta_of old.node)) [
      | inl before ↦ inside_old j before
      | inr after ↦
          let g = first.quanta in
          let e = first.early (j - quanta_of old.node) (omega arith) in
          let f : (line_of plan).instant i (quanta_of old.node + (j - quanta_of old.node)) ≡ (line_of plan).instant i j = ap ((line_of plan).instant i) (omega arith) in
          omega arith
    ]

    -- where its drive didn't turn, it would drive the same after it
    stays_mid : turned ≡ false → Stays plan i (quanta_of old.node) (suc first.n)
    stays_mid kept =
        let l = line_of plan in
        let q = quanta_of old.node + first.n in
        let e : suc q ≡ quanta_of old.node + suc first.n = omega arith in
        let inside : AreInside l i (suc q) = λ j c. inside_mid j (let g = first.quanta in omega arith) in
        let at : q ≡ quanta_of mid.node - 1 = (let g = first.quanta in omega arith) in
        let stay = stays_next sims l s i b q inside (ap (turned_at l i) at ∙ (sym gone.turned_is ∙ kept)) in
        record {
          drive = ap (λ k. l.drives i (seen l i k)) (sym e) ∙ (stay.0 ∙ first.stays.drive);
          changed = ap (λ k. (member_after l i k).changed) (sym e) ∙ (stay.1 ∙ first.stays.changed);
        }

    pub gone_both : (new : Cell) (more : Bool) → turned ≡ false → HasGoneIn plan i end mid new more → HasGoneIn plan i end old new more
    gone_both new more kept next =
        let l = line_of plan in
        let second = next.over in
        let g = first.quanta in
        let h = second.quanta in
        let stay = stays_mid kept in
        let at : quanta_of mid.node ≡ quanta_of old.node + suc first.n = first.quanta in
        let sum : quanta_of mid.node + second.n ≡ quanta_of old.node + (suc first.n + second.n) = omega arith in
        record {
          over = record {
            n = suc first.n + second.n;
            quanta = omega arith;
            keeps = second.keeps ∙ first.keeps;
            early = λ j c. elim (cases_lt j (suc first.n)) [
              | inl one ↦ first.early j (omega arith)
              | inr two ↦
                  let e = second.early (j - suc first.n) (omega arith) in
                  let f : l.instant i (quanta_of mid.node + (j - suc first.n)) ≡ l.instant i (quanta_of old.node + j) = ap (l.instant i) (omega arith) in
                  omega arith
            ];
            stays = record {
              drive = ap (λ k. l.drives i (seen l i k)) (sym sum) ∙ (second.stays.drive ∙ (ap (λ k. l.drives i (seen l i k)) at ∙ stay.drive));
              changed = ap (λ k. (member_after l i k).changed) (sym sum) ∙ (second.stays.changed ∙ (ap (λ k. (member_after l i k).changed) at ∙ stay.changed));
            };
            after = second.after;
            says = second.says ∙ ap (spoken l i) sum;
          };
          turned_is = next.turned_is;
        }

    -- and where no quantum more was run
    pub gone_still : (new : Cell) → HasNotGone mid new → HasGoneIn plan i end old new turned
    gone_still new not =
        let a = first.after in
        let held : IsCellOf plan i (member_after (line_of plan) i (quanta_of mid.node)) mid = record { setup = a.setup; node = a.node; changed = a.changed; next = a.next; ways = a.ways } in
        let at : IsCellOf plan i (member_after (line_of plan) i (quanta_of new.node)) new =
        subst (λ k. IsCellOf plan i (member_after (line_of plan) i k) new) (sym not.quanta) (not.same plan i (member_after (line_of plan) i (quanta_of mid.node)) held) in
        record {
          over = record {
            n = first.n;
            quanta = not.quanta ∙ first.quanta;
            keeps = not.keeps ∙ first.keeps;
            early = first.early;
            stays = first.stays;
            after = record { setup = at.setup; node = at.node; changed = at.changed; next = at.next; ways = at.ways };
            says = ap (λ k. spoken (line_of plan) i (k - 1)) not.quanta ∙ first.says;
          };
          turned_is = gone.turned_is ∙ ap (λ k. turned_at (line_of plan) i (k - 1)) (sym not.quanta);
        }

-- ---- how many quanta come before a tick and the end of a stretch

-- They were counted by the node's clock.
pub record IsCounted (plan : Plan) (i : ℕ) (cell : Cell) (until end last : ℕ) : Type 0 where
  pub due_until : cell.next < until
  pub due_end : cell.next < end
  pub stop : end ≤ plan.end
  pub reached : min until end ≤ (line_of plan).instant i last
  pub below : (m : ℕ) → m < last → (line_of plan).instant i m < min until end

pub counted_of : (plan : Plan) (i : ℕ) (cell : Cell) → IsCell plan i cell → (until end : ℕ) → cell.next < until → cell.next < end → end ≤ plan.end
    → (setup : NodeSetup) → setup ≡ node_setup cell.node → (bound : ℕ) → bound ≡ min until end → (last : ℕ) → bound ≤ tick_of setup.clock last
    → ((k : ℕ) → k < last → tick_of setup.clock k < bound) → IsCounted plan i cell until end last
counted_of plan i cell is until end due_until due_end stop setup setup_is bound bound_is last reached least =
    let e : setup ≡ setup_at plan i = setup_is ∙ is.setup in
    record {
      due_until = due_until;
      due_end = due_end;
      stop = stop;
      reached = subst (λ x. x ≤ tick_of (setup_at plan i).clock last) bound_is (subst (λ (x : NodeSetup). bound ≤ tick_of x.clock last) e reached);
      below = λ m c. subst (λ x. tick_of (setup_at plan i).clock m < x) bound_is (subst (λ (x : NodeSetup). tick_of x.clock m < bound) e (least m c));
    }

module _ (sims : SimulationLaws) (plan : Plan) (s : IsSound (line_of plan)) (i : ℕ) (b : i < length plan.nodes) (cell : Cell) (is : IsCell plan i cell)
    (until end last : ℕ) (counted : IsCounted plan i cell until end last) where
  pub some_last : quanta_of cell.node < last
  some_last = elim (cases_lt (quanta_of cell.node) last) [
    | inl less ↦ less
    | inr more ↦
        let l = sims.clock_later (line_of plan) i last (quanta_of cell.node) s.causal b more in
        let n = is.next in
        let r = counted.reached in
        let t = counted.due_until in
        let u = counted.due_end in
        absurd (omega arith)
  ]

  pub early_last : (j : ℕ) → j < last - quanta_of cell.node → (line_of plan).instant i (quanta_of cell.node + j) < end
  early_last j c = (let t = counted.below (quanta_of cell.node + j) (omega arith) in omega arith)

  pub inside_last : AreInside (line_of plan) i (quanta_of cell.node + (last - quanta_of cell.node))
  inside_last j c = (let l = some_last in let t = counted.below j (omega arith) in let e = counted.stop in omega arith)

  pub few_last : quanta_of cell.node + (last - quanta_of cell.node) ≤ most_quanta
  few_last =
      let l = some_last in
      let e = counted.stop in
      let t = counted.below (last - 1) (omega arith) in
      let f = s.few_quanta i (last - 1) b (omega arith) in
      omega arith

  pub finds_last : (stretch : Pulse) → stretch.until ≡ until → IsStretch (line_of plan) i stretch → stretch.from ≤ cell.next
      → Finds (line_of plan) i (level_of stretch.dominant) (quanta_of cell.node) (last - quanta_of cell.node)
  finds_last stretch e stay from j c =
      let t = counted.below (quanta_of cell.node + j) (omega arith) in
      let later = sims.clock_later (line_of plan) i (quanta_of cell.node) (quanta_of cell.node + j) s.causal b (omega arith) in
      let n = is.next in
      ap level_of (stay ((line_of plan).instant i (quanta_of cell.node + j)) (omega arith) (omega arith))

-- a node has changed no more often than records count
pub changed_most : (plan : Plan) → IsSound (line_of plan) → (i : ℕ) → i < length plan.nodes → (cell : Cell) → IsCell plan i cell → cell.changed ≤ most_edges
changed_most plan s i b cell is =
    let c = is.changed in
    let m = count_by-le-length (λ u. nat_lt u ((line_of plan).instant i (quanta_of cell.node))) (table_of plan i) in
    let f = s.few_changes i b in
    omega arith

-- ---- stretches that are found one after another

module _ (l : Line) (j t : ℕ) where
  pub ahead_more : (ss : List Pulse) (n : ℕ) (s : Pulse) → 0 < n → n < length ss → AreAhead l j t ss n → IsStretch l j s → s.from ≤ (slice_index_or ss (n - 1) no_stretch).until
      → AreAhead l j t (slice_set ss n s) (n + 1)
  ahead_more ss n s some room a stay from =
      let long = length-set ss n s in
      let old : (m : ℕ) → m < n → slice_index_or (slice_set ss n s) m no_stretch ≡ slice_index_or ss m no_stretch = λ m c. get_or-set_other ss n m s no_stretch (λ e. absurd (omega arith)) in
      let new : slice_index_or (slice_set ss n s) n no_stretch ≡ s = get_or-set_same ss n s no_stretch room in
      record {
        few = omega arith;
        each = λ m c. elim (cases_lt m n) [
          | inl less ↦ subst (IsStretch l j) (sym (old m less)) (a.each m less)
          | inr more ↦ (let e : n ≡ m = omega arith in subst (λ x. IsStretch l j (slice_index_or (slice_set ss n s) x no_stretch)) e (subst (IsStretch l j) (sym new) stay))
        ];
        from = λ c. subst (λ (x : Pulse). x.from ≤ t) (sym (old 0 some)) (a.from some);
        until = λ c. subst (λ (x : Pulse). t < x.until) (sym (old 0 some)) (a.until some);
        joined = λ m c. elim (cases_lt (suc m) n) [
          | inl less ↦ subst (λ (x : Pulse). x.from ≤ (slice_index_or (slice_set ss n s) m no_stretch).until) (sym (old (suc m) less))
              (subst (λ (x : Pulse). (slice_index_or ss (suc m) no_stretch).from ≤ x.until) (sym (old m (omega arith))) (a.joined m less))
          | inr last ↦
              let e : n ≡ suc m = omega arith in
              let f : n - 1 ≡ m = omega arith in
              subst (λ x. (slice_index_or (slice_set ss n s) x no_stretch).from ≤ (slice_index_or (slice_set ss n s) m no_stretch).until) e
              (subst (λ (x : Pulse). x.from ≤ (slice_index_or (slice_set ss n s) m no_stretch).until) (sym new)
              (subst (λ (x : Pulse). s.from ≤ x.until) (sym (old m (omega arith))) (subst (λ x. s.from ≤ (slice_index_or ss x no_stretch).until) f from)))
        ];
      }

-- ---- what is said is of the slots ahead

-- a record of node i's slots after n changes
abbrev pub IsAhead : ℕ → ℕ → Record → Type 0
IsAhead i n r = Contains (slots_ahead i n) (slot_of r)

with_turn : (i n t u : ℕ) (b : Bool) → AllByRecursion (IsAhead i n) ((if b then Edge i n t ∷ [] else []) ++ Silence i (if b then suc n else n) u ∷ [])
with_turn i n t u true = ((0, omega arith, refl), ((2, omega arith, ap (SilenceAt i) (let one : n + 1 ≡ suc n = omega arith in one)), tt))
with_turn i n t u false = ((1, omega arith, refl), tt)

pub said_ahead : (l : Line) (i : ℕ) (m : Member) (level : Level) → All (IsAhead i m.changed) (emission l i m level)
said_ahead l i m level =
    All-from_recursion (IsAhead i m.changed) (emission l i m level) (with_turn i m.changed (next_tick l i m) (reach l i (member_after_quantum l i m level).saw) (turns l i m level))
