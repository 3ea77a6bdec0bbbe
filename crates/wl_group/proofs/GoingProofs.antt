-- Quanta in a row, while the line at the place stays and the drive too: where they take the node, and that the machine takes them one by one.
use Rattle.std.proofs.Common.{◌≡◌, ℕ, zero, suc, ◌+◌, ◌-◌, ◌<◌, ◌≤◌, Bool, true, false, ◌&&◌, nat_lt, inl, inr, List, [], ◌∷◌, ◌++◌, length, replicate, sym, ◌∙◌, ap, subst, arith, append-nil, Some, None, is_some}
use Rattle.std.specs.Prelude.{slice_set, Contains}
use Rattle.std.proofs.lemmas.Bool.{cases_lt, cases_eq, and_parts, and_from, lt-ltb}
use Rattle.std.proofs.lemmas.List.{get_or-set_same, get_or-set_other}
use Rattle.std.proofs.lemmas.List.Elements.{Contains-append_left, Contains-append_right}
use Rattle.wl_level.specs.declared.Level.{Level}
use Rattle.wl_level.specs.Levels.{level_of}
use Rattle.wl_record_core.specs.declared.record.Record.{Record}
use Rattle.wl_record_core.specs.Truth.{count_below, AreTrueOf}
use Rattle.wl_record_core.specs.TableLaws.{TableLaws}
use Rattle.wl_replica.specs.State.{state_of, slots_of}
use Rattle.wl_replica.specs.Slots.{IsBelow}
use Rattle.wl_replica.specs.SlotsOf.{SlotsOfStates}
use Rattle.wl_replica.specs.Known.{place_horizon}
use Rattle.wl_replica.specs.KnownLaws.{SlotsLaws, KnownLaws}
use Rattle.wl_plan.specs.Line.{Line, found}
use Rattle.wl_plan.specs.PlanLine.{line_of, table_of}
use Rattle.wl_plan.specs.Simulation.{level, seen, differs, changes, AreInside}
use Rattle.wl_plan.specs.SimulationLaws.{SimulationLaws}
use Rattle.wl_plan.specs.Sound.{IsSound}
use Rattle.wl_plan.specs.Checked.{CheckedIsSound}
use Rattle.wl_group.specs.Member.{next_tick, can_run, emission}
use Rattle.wl_group.specs.Holds.{IsMember}
use Rattle.wl_group.specs.GroupLaws.{GroupLaws}
use Rattle.wl_group.specs.Running.{passed, Stood, Ran}
use Rattle.wl_group.specs.Running as runs_of
use Rattle.wl_group.specs.ValueLaws.{ValueLaws}
use Rattle.wl_group.specs.GroupValue.{GroupValue, IsGroupValue, quanta_at, belongs, member_after, member_at, members_now, may_run, emission_at, run_on}
use Rattle.wl_group.specs.Through.{spoken}
use Rattle.wl_group.proofs.CellProofs.{one_longer}
use Rattle.wl_group.proofs.GroupProofs.{place_keeps}
use Rattle.wl_group.proofs.RunProofs.{some_there, set_own, set_there}

-- ---- a node at whose place the line stays

same_differs : (a b : Bool) → a ≡ b → differs a b ≡ false
same_differs true b e = ap (λ v. differs true v) (sym e)
same_differs false b e = sym e

-- at each of the quanta from k on, below k + n, the node finds this level
abbrev pub Finds : Line → ℕ → Level → ℕ → ℕ → Type 0
Finds l i here k n = (j : ℕ) → j < n → level_of (found l (level l) i (l.instant i (k + j))) ≡ here

pub seen_on : (l : Line) (i : ℕ) (here : Level) (k n : ℕ) → Finds l i here k n → seen l i (k + n) ≡ seen l i k ++ replicate n here
unfolding seen
seen_on l i here k zero f = ap (seen l i) (let e : k + 0 ≡ k = omega arith in e) ∙ sym (append-nil (seen l i k))
seen_on l i here k (suc n) f =
    ap (seen l i) (let e : k + suc n ≡ suc (k + n) = omega arith in e)
    ∙ (ap (λ xs. xs ++ level_of (found l (level l) i (l.instant i (k + n))) ∷ []) (seen_on l i here k n (λ j b. f j (omega arith)))
    ∙ (ap (λ x. (seen l i k ++ replicate n here) ++ x ∷ []) (f n (omega arith))
    ∙ sym (one_longer (seen l i k) n here)))

module _ (sims : SimulationLaws) (l : Line) (s : IsSound l) (i : ℕ) (b : i < l.nodes) (here : Level) (k : ℕ) where
  -- as long as the drive stays no change is counted
  count_on : (n : ℕ) → Finds l i here k n → AreInside l i (k + n) → Stood l i (member_after l i k) here n
      → count_below (l.instant i (k + n)) (changes l i) ≡ count_below (l.instant i k) (changes l i)
  count_on zero f inside stood = ap (λ m. count_below (l.instant i m) (changes l i)) (let e : k + 0 ≡ k = omega arith in e)
  count_on (suc n) f inside stood =
      let e : k + suc n ≡ suc (k + n) = omega arith in
      let now : l.drives i (seen l i (suc (k + n))) ≡ l.drives i (seen l i k) = ap (λ m. l.drives i (seen l i m)) (sym e) ∙ (ap (l.drives i) (seen_on l i here k (suc n) f) ∙ stood (suc n) (omega arith)) in
      let before : l.drives i (seen l i (k + n)) ≡ l.drives i (seen l i k) = ap (l.drives i) (seen_on l i here k n (λ j c. f j (omega arith))) ∙ stood n (omega arith) in
      ap (λ m. count_below (l.instant i m) (changes l i)) e
      ∙ (sims.no_turn l i (k + n) s.causal b (λ j c. inside j (omega arith)) (same_differs (l.drives i (seen l i (suc (k + n)))) (l.drives i (seen l i (k + n))) (now ∙ sym before))
      ∙ count_on n (λ j c. f j (omega arith)) (λ j c. inside j (omega arith)) (λ j c. stood j (omega arith)))

  pub passed_is : (n : ℕ) → Finds l i here k n → AreInside l i (k + n) → Stood l i (member_after l i k) here n → passed (member_after l i k) here n ≡ member_after l i (k + n)
  passed_is n f inside stood =
      let saw = sym (seen_on l i here k n f) in
      let changed = sym (count_on n f inside stood) in
      λ d. record { saw = saw d; changed = changed d }

-- ---- a group with a member at a later quantum

abbrev pub at_quantum : GroupValue → ℕ → ℕ → GroupValue
at_quantum g i k = record { plan = g.plan; lists = g.lists; ran = slice_set g.ran i (Some k); replica = g.replica; emitted = g.emitted }

pub here_at : (g : GroupValue) (i k m : ℕ) → quanta_at g i ≡ Some k → quanta_at (at_quantum g i m) i ≡ Some m
here_at g i k m ran = get_or-set_same g.ran i (Some m) None (some_there g.ran i k ran)

belongs_at : (g : GroupValue) (i k m : ℕ) → quanta_at g i ≡ Some k → (j : ℕ) → belongs (at_quantum g i m) j ≡ belongs g j
belongs_at g i k m ran j = elim (cases_eq j i) [
  | inl same ↦ subst (λ n. belongs (at_quantum g i m) n ≡ belongs g n) (sym same) (ap is_some (here_at g i k m ran) ∙ sym (ap is_some ran))
  | inr other ↦ ap is_some (get_or-set_other g.ran i j (Some m) None other)
]

pub belongs_on : (g : GroupValue) (i k m : ℕ) → quanta_at g i ≡ Some k → belongs (at_quantum g i m) ≡ belongs g
belongs_on g i k m ran = λ d j. belongs_at g i k m ran j d

module _ (laws : ValueLaws) (groups : GroupLaws) (sims : SimulationLaws) (sound : CheckedIsSound) (g : GroupValue) (v : IsGroupValue g) (i k : ℕ) (ran : quanta_at g i ≡ Some k) where
  pub node : i < length g.plan.nodes
  node = (laws.quanta_few g v i k ran).0

  -- a member whose next quantum is before the end, and below what is known at its place, may run it
  pub may_at : (line_of g.plan).instant i k < g.plan.end → (line_of g.plan).instant i k < place_horizon (length g.plan.nodes) (line_of g.plan).delay (slots_of g.replica) i → may_run g i ≡ true
  may_at early known =
      let l = line_of g.plan in
      let long : length (seen l i k) ≡ k = sims.length_seen l i k in
      let can : can_run l i (member_after l i k) (slots_of g.replica) ≡ true =
      subst (λ m. (nat_lt (l.instant i m) l.stop && nat_lt (l.instant i m) (place_horizon l.nodes l.delay (slots_of g.replica) i)) ≡ true) (sym long)
      (and_from _ _ (lt-ltb _ _ early) (lt-ltb _ _ known)) in
      and_from _ _ (ap is_some ran) (ap (λ q. can_run l i (member_at l i q) (slots_of g.replica)) ran ∙ can)

  -- and says then what it says in the simulation
  pub spoken_is : may_run g i ≡ true → emission_at g i ≡ spoken (line_of g.plan) i k
  spoken_is may =
      let l = line_of g.plan in
      let c = and_parts (belongs g i) (can_run l i (members_now g i) (slots_of g.replica)) may in
      let long : length (seen l i k) ≡ k = sims.length_seen l i k in
      ap (emission l i (members_now g i)) (groups.read_is_found l (sound g.plan v.checked) (slots_of g.replica) v.holds.truth i (members_now g i) node c.1)
      ∙ (ap (λ q. emission l i (member_at l i q) (level_of (found l (level l) i (next_tick l i (member_at l i q))))) ran
      ∙ ap (λ m. emission l i (member_after l i k) (level_of (found l (level l) i (l.instant i m)))) long)

  -- the quanta k to k + n of node i are before the end, and the line at its place is known there
  module _ (n : ℕ) (early : (j : ℕ) → j ≤ n → (line_of g.plan).instant i (k + j) < g.plan.end)
      (known : (j : ℕ) → j ≤ n → (line_of g.plan).instant i (k + j) < place_horizon (length g.plan.nodes) (line_of g.plan).delay (slots_of g.replica) i) where
    pub inside_all : AreInside (line_of g.plan) i (k + suc n)
    inside_all j b = elim (cases_lt j k) [
      | inl old ↦ (laws.quanta_few g v i k ran).2 j old
      | inr new ↦ subst (λ m. (line_of g.plan).instant i m < g.plan.end) (let e : k + (j - k) ≡ j = omega arith in e) (early (j - k) (omega arith))
    ]

    pub own_before : IsMember (line_of g.plan) i (member_after (line_of g.plan) i k) (slots_of g.replica)
    own_before = subst (λ m. IsMember (line_of g.plan) i m (slots_of g.replica)) (ap (member_at (line_of g.plan) i) ran) (v.holds.each i node (ap is_some ran))

-- ---- one by one

-- the group after n quanta of node i one by one, and what it said at each
pub record OneByOne (g : GroupValue) (i k n : ℕ) : Type 0 where
  pub h : GroupValue
  pub rs : List Record
  pub steps : Ran g rs h
  pub quanta : h.ran ≡ slice_set g.ran i (Some (k + n))
  pub last_true : (m : ℕ) → n ≡ suc m → AreTrueOf (length g.plan.nodes) (table_of g.plan) (spoken (line_of g.plan) i (k + m))
  pub last : (m : ℕ) → n ≡ suc m → (r : Record) → Contains (spoken (line_of g.plan) i (k + m)) r → Contains rs r

module _ (laws : ValueLaws) (groups : GroupLaws) (tables : TableLaws) (joins : SlotsLaws) (knows : KnownLaws) (sims : SimulationLaws) (states : SlotsOfStates) (sound : CheckedIsSound) (i : ℕ) where
  -- what is known at a place stays known
  known_still : (g : GroupValue) → IsGroupValue g → (k : ℕ) → quanta_at g i ≡ Some k → may_run g i ≡ true → (t : ℕ)
      → t < place_horizon (length g.plan.nodes) (line_of g.plan).delay (slots_of g.replica) i → t < place_horizon (length g.plan.nodes) (line_of g.plan).delay (slots_of (run_on i k g).replica) i
  known_still g v k ran may t h =
      let l = line_of g.plan in
      let b = node laws groups sims sound g v i k ran in
      place_keeps tables joins knows sims l (slots_of g.replica) (slots_of (run_on i k g).replica) i (omega arith) v.holds.truth (laws.runs g v i k ran may).holds.truth
      (subst (IsBelow (slots_of g.replica)) (sym (states.both g.replica (state_of g.replica.nodes (emission_at g i)))) (joins.above_first (slots_of g.replica) (slots_of (state_of g.replica.nodes (emission_at g i)))))
      t h

  pub one_by_one : (n : ℕ) (g : GroupValue) (k : ℕ) → IsGroupValue g → quanta_at g i ≡ Some k → ((j : ℕ) → j < n → (line_of g.plan).instant i (k + j) < g.plan.end)
      → ((j : ℕ) → j < n → (line_of g.plan).instant i (k + j) < place_horizon (length g.plan.nodes) (line_of g.plan).delay (slots_of g.replica) i) → OneByOne g i k n
  one_by_one zero g k v ran early known = record {
    h = g;
    rs = [];
    steps = runs_of.none;
    quanta = sym (set_own g.ran i (k + 0) (ran ∙ ap (λ m. Some m) (omega arith)));
    last_true = λ m e. absurd (omega arith);
    last = λ m e. absurd (omega arith);
  }
  one_by_one (suc n) g k v ran early known =
      let l = line_of g.plan in
      let e : k + 0 ≡ k = omega arith in
      let may = may_at laws groups sims sound g v i k ran (subst (λ m. l.instant i m < g.plan.end) e (early 0 (omega arith)))
      (subst (λ m. l.instant i m < place_horizon (length g.plan.nodes) l.delay (slots_of g.replica) i) e (known 0 (omega arith))) in
      let on : (j : ℕ) → k + suc j ≡ suc k + j = λ j. omega arith in
      let next = one_by_one n (run_on i k g) (suc k) (laws.runs g v i k ran may) (get_or-set_same g.ran i (Some (suc k)) None (some_there g.ran i k ran))
      (λ j b. subst (λ m. l.instant i m < g.plan.end) (on j) (early (suc j) (omega arith)))
      (λ j b. known_still g v k ran may (l.instant i (suc k + j)) (subst (λ m. l.instant i m < place_horizon (length g.plan.nodes) l.delay (slots_of g.replica) i) (on j) (known (suc j) (omega arith)))) in
      record {
        h = next.h;
        rs = emission_at g i ++ next.rs;
        steps = runs_of.more i k ran may next.steps;
        quanta = next.quanta ∙ (set_there g.ran i (Some (suc k)) (Some (suc k + n)) ∙ ap (λ m. slice_set g.ran i (Some m)) (sym (on n)));
        last_true = λ m is. elim (cases_eq n 0) [
          | inl none ↦ subst (λ q. AreTrueOf (length g.plan.nodes) (table_of g.plan) (spoken l i q)) (let f : k ≡ k + m = omega arith in f)
              (subst (AreTrueOf (length g.plan.nodes) (table_of g.plan)) (spoken_is laws groups sims sound g v i k ran may) (laws.emits_true g v i may))
          | inr some ↦ subst (λ q. AreTrueOf (length g.plan.nodes) (table_of g.plan) (spoken l i q)) (let f : suc k + (n - 1) ≡ k + m = omega arith in f) (next.last_true (n - 1) (omega arith))
        ];
        last = λ m is r c. elim (cases_eq n 0) [
          | inl none ↦ Contains-append_left (emission_at g i) next.rs r
              (subst (λ es. Contains es r) (sym (spoken_is laws groups sims sound g v i k ran may)) (subst (λ q. Contains (spoken l i q) r) (let f : k + m ≡ k = omega arith in f) c))
          | inr some ↦ Contains-append_right (emission_at g i) next.rs r
              (next.last (n - 1) (omega arith) r (subst (λ q. Contains (spoken l i q) r) (let f : k + m ≡ suc k + (n - 1) = omega arith in f) c))
        ];
      }
