-- What a group begins with: which nodes, each before its first quantum, and what it knows then.
use Rattle.std.proofs.Common.{◌≡◌, ℕ, zero, suc, ◌+◌, ◌<◌, ◌≤◌, ◌&&◌, ◌||◌, Bool, true, false, inl, inr, List, [], ◌∷◌, ◌++◌, length, map, get_or, replicate, refl, sym, ◌∙◌, ap, subst, arith, nat_lt, length-append, Some, None, Option, is_some, if◌then◌else◌}
use Rattle.std.specs.Prelude.{slice_index_or, slice_set, All}
use Rattle.std.specs.List.{range_with_len}
use Rattle.std.proofs.lemmas.Bool.{cases_lt, cases_eq, cond-true, lt-ltb, le-ltb, ne_eqb, false≢true}
use Rattle.std.proofs.lemmas.List.{get_or-set_same, get_or-set_other, get_or_past, get_or_default, map-append, length-map}
use Rattle.std.proofs.lemmas.List.FromFn.{map-range_with_len_more, length-map-range_with_len}
use Rattle.wl_record_core.specs.declared.record.Record.{Record}
use Rattle.wl_record_core.specs.declared.record.Record.TheVariants.{Edge, Clash, Silence}
use Rattle.wl_record_core.specs.Truth.{count_below, IsTrueOf}
use Rattle.wl_node.specs.declared.node.Node.{Node}
use Rattle.wl_node.specs.Reached.{IsNode, keeps_lists, node_setup, quanta_of}
use Rattle.wl_replica.specs.State.{State, state_of, state_with_record, states_joined, slots_of, Fits, IsOfRecords}
use Rattle.wl_replica.specs.Slots.{HoldsTrue}
use Rattle.wl_plan.specs.declared.plan.Plan.{Plan}
use Rattle.wl_plan.specs.Line.{Line, reach}
use Rattle.wl_plan.specs.PlanLine.{setup_at, line_of, table_of, IsTrueOfPlan}
use Rattle.wl_plan.specs.Simulation.{seen}
use Rattle.wl_plan.specs.Sound.{IsSound}
use Rattle.wl_plan.specs.SimulationLaws.{SimulationLaws}
use Rattle.wl_plan.specs.Checked.{IsChecked}
use Rattle.wl_group.specs.declared.cell.Cell.{Cell}
use Rattle.wl_group.specs.GroupValue.{GroupValue, IsGroupValue, quanta_at, belongs, member_after, member_at, members_now, names, initial_group, with_records, with_state}
use Rattle.wl_group.specs.Kept.{quanta_kept, ran_of, group_value, IsCell, AreCells, AreListing, IsKept}
use Rattle.wl_group.specs.Ways.{AreWays}
use Rattle.wl_group.specs.Chosen.{is_chosen}
use Rattle.wl_group.specs.ValueLaws.{ValueLaws}
use Rattle.wl_replica.proofs.Callers.{some_is}

-- ---- numbers that are chosen, one after another

lt_before : (j i : ℕ) → j ≡ i → nat_lt j (i + 1) ≡ true
lt_before j i e = lt-ltb j (i + 1) (omega arith)

set_test : (f : ℕ → Bool) (i j : ℕ) → (j ≡ i → ⊥) → nat_lt j (i + 1) ≡ nat_lt j i
set_test f i j n = elim (cases_lt j i) [
  | inl before ↦ lt-ltb j (i + 1) (omega arith) ∙ sym (lt-ltb j i before)
  | inr behind ↦ le-ltb j (i + 1) (elim (cases_eq j i) [
    | inl same ↦ absurd (n same)
    | inr other ↦ omega arith
  ]) ∙ sym (le-ltb j i behind)
]

-- the first i of them are as a test says, and none after
pub one_more_chosen : (xs : List Bool) (f : ℕ → Bool) (i : ℕ) → i < length xs → ((j : ℕ) → is_chosen xs j ≡ (nat_lt j i && f j))
    → (j : ℕ) → is_chosen (slice_set xs i (f i)) j ≡ (nat_lt j (i + 1) && f j)
one_more_chosen xs f i b h j = elim (cases_eq j i) [
  | inl same ↦ ap (is_chosen (slice_set xs i (f i))) same ∙ (get_or-set_same xs i (f i) false b ∙ (ap f (sym same) ∙ sym (ap (λ t. t && f j) (lt_before j i same))))
  | inr other ↦ get_or-set_other xs i j (f i) false other ∙ (h j ∙ sym (ap (λ t. t && f j) (set_test f i j other)))
]

none_chosen : (n j : ℕ) → is_chosen (replicate n false) j ≡ false
none_chosen zero j = refl
none_chosen (suc n) zero = refl
none_chosen (suc n) (suc j) = none_chosen n j

pub none_yet : (f : ℕ → Bool) (n j : ℕ) → is_chosen (replicate n false) j ≡ (nat_lt j 0 && f j)
none_yet f n j = none_chosen n j ∙ sym (ap (λ t. t && f j) (le-ltb j 0 (omega arith)))

pub all_chosen : (xs : List Bool) (f : ℕ → Bool) (n : ℕ) → ((j : ℕ) → n ≤ j → f j ≡ false) → ((j : ℕ) → is_chosen xs j ≡ (nat_lt j n && f j)) → (j : ℕ) → is_chosen xs j ≡ f j
all_chosen xs f n past h j = h j ∙ (elim (cases_lt j n) [
  | inl before ↦ ap (λ t. t && f j) (lt-ltb j n before)
  | inr behind ↦ ap (λ t. t && f j) (le-ltb j n behind) ∙ sym (past j behind)
])

pub names_past : (ms : List ℕ) (n j : ℕ) → All (λ m. m < n) ms → n ≤ j → names ms j ≡ false
names_past [] n j all b = refl
names_past (m ∷ ms) n j all b =
    let h : m < n = all 0 0 (omega arith) in
    ap (λ t. t || names ms j) (ne_eqb m j (λ e. absurd (omega arith))) ∙ names_past ms n j (λ k d c. all (suc k) d (omega arith)) b

-- ---- places of cells

pub quanta_in : (cells : List (Option Cell)) (i : ℕ) → slice_index_or (ran_of cells) i None ≡ quanta_kept (slice_index_or cells i None)
quanta_in [] i = refl
quanta_in (c ∷ cs) zero = refl
quanta_in (c ∷ cs) (suc i) = quanta_in cs i

kept_some : (o : Option Cell) → is_some (quanta_kept o) ≡ is_some o
kept_some None = refl
kept_some (Some c) = refl

-- a member has a place
pub has_place : (cells : List (Option Cell)) (i : ℕ) → is_some (slice_index_or (ran_of cells) i None) ≡ true → i < length cells
has_place cells i h = elim (cases_lt i (length cells)) [
  | inl inside ↦ inside
  | inr outside ↦ absurd (false≢true (sym (ap is_some (ap quanta_kept (get_or_past cells i None outside))) ∙ (sym (ap is_some (quanta_in cells i)) ∙ h)))
]

-- what was read at a place
pub cell_read : (cells : List (Option Cell)) (i : ℕ) (o : Option Cell) (cell : Cell) → i < length cells → o ≡ get_or cells i o → o ≡ Some cell → slice_index_or cells i None ≡ Some cell
cell_read cells i o cell b r e = get_or_default cells i None o b ∙ (sym r ∙ e)

-- where the value of a group has a member that it keeps
pub kept_quanta : (plan : Plan) (lists : Bool) (cells : List (Option Cell)) (replica : State) (emitted : List Record) (i : ℕ) (cell : Cell)
    → slice_index_or cells i None ≡ Some cell → quanta_at (group_value plan lists cells replica emitted) i ≡ Some (quanta_of cell.node)
kept_quanta plan lists cells replica emitted i cell e = quanta_in cells i ∙ ap quanta_kept e

pub kept_member : (plan : Plan) (lists : Bool) (cells : List (Option Cell)) (replica : State) (emitted : List Record) (i : ℕ) (cell : Cell)
    → slice_index_or cells i None ≡ Some cell → members_now (group_value plan lists cells replica emitted) i ≡ member_after (line_of plan) i (quanta_of cell.node)
kept_member plan lists cells replica emitted i cell e = ap (member_at (line_of plan) i) (kept_quanta plan lists cells replica emitted i cell e)

-- ---- fresh nodes

pub fresh_kept : (plan : Plan) (i : ℕ) (node : Node) (next : ℕ) (ways : List ℕ) → SimulationLaws → IsSound (line_of plan) → i < length plan.nodes
    → node_setup node ≡ setup_at plan i → IsNode [] node → quanta_of node ≡ 0 → next ≡ (line_of plan).instant i 0 → AreWays plan i ways
    → (member : Cell) → Some (record { node = node; changed = 0; next = next; ways = ways }) ≡ Some member → IsCell plan i member
unfolding seen
fresh_kept plan i node next ways laws sound b es is q at to member e =
    let f : record { node = node; changed = 0; next = next; ways = ways } ≡ member = some_is (record { node = node; changed = 0; next = next; ways = ways }) member e in
    subst (IsCell plan i) f (record {
      setup = es;
      node = subst (λ n. IsNode (seen (line_of plan) i n) node) (sym q) is;
      changed = sym (laws.none_at_first (line_of plan) i sound.causal b) ∙ ap (λ n. count_below ((line_of plan).instant i n) (table_of plan i)) (sym q);
      next = at ∙ ap ((line_of plan).instant i) (sym q);
      ways = to;
    })

-- and its node lists its samples and phase errors, or not
pub fresh_listing : (node : Node) (next : ℕ) (ways : List ℕ) (lists : Bool) → keeps_lists node ≡ lists
    → (member : Cell) → Some (record { node = node; changed = 0; next = next; ways = ways }) ≡ Some member → keeps_lists member.node ≡ lists
fresh_listing node next ways lists is member e =
    let f : record { node = node; changed = 0; next = next; ways = ways } ≡ member = some_is (record { node = node; changed = 0; next = next; ways = ways }) member e in
    subst (λ (x : Cell). keeps_lists x.node ≡ lists) f is

-- one more cell, after the others
pub one_more_ran : (chosen : List Bool) (cells more : List (Option Cell)) (o : Option Cell) (i : ℕ) → more ≡ cells ++ o ∷ []
    → ran_of cells ≡ map (λ j. if is_chosen chosen j then Some 0 else None) (range_with_len 0 i) → quanta_kept o ≡ (if is_chosen chosen i then Some 0 else None)
    → ran_of more ≡ map (λ j. if is_chosen chosen j then Some 0 else None) (range_with_len 0 (i + 1))
one_more_ran chosen cells more o i e h q =
    ap ran_of e
    ∙ (map-append quanta_kept cells (o ∷ [])
    ∙ (ap (λ xs. xs ++ quanta_kept o ∷ []) h
    ∙ (ap (λ x. map (λ j. if is_chosen chosen j then Some 0 else None) (range_with_len 0 i) ++ x ∷ []) q
    ∙ sym (map-range_with_len_more (λ j. if is_chosen chosen j then Some 0 else None) 0 i i (omega arith)))))

pub ran_length : (chosen : List Bool) (cells : List (Option Cell)) (i : ℕ) → ran_of cells ≡ map (λ j. if is_chosen chosen j then Some 0 else None) (range_with_len 0 i) → length cells ≡ i
ran_length chosen cells i h = sym (length-map cells quanta_kept) ∙ (ap length h ∙ length-map-range_with_len (λ j. if is_chosen chosen j then Some 0 else None) 0 i)

get_or_before : (xs : List (Option Cell)) (x d : Option Cell) (j : ℕ) → j < length xs → get_or (xs ++ x ∷ []) j d ≡ get_or xs j d
get_or_before [] x d j b = absurd (omega arith)
get_or_before (y ∷ ys) x d zero b = refl
get_or_before (y ∷ ys) x d (suc j) b = get_or_before ys x d j (omega arith)

get_or_behind : (xs : List (Option Cell)) (x d : Option Cell) → get_or (xs ++ x ∷ []) (length xs) d ≡ x
get_or_behind [] x d = refl
get_or_behind (y ∷ ys) x d = get_or_behind ys x d

one_more : (P : ℕ → Cell → Type 0) (cells more : List (Option Cell)) (o : Option Cell) (i : ℕ) → more ≡ cells ++ o ∷ [] → length cells ≡ i
    → ((j : ℕ) (member : Cell) → get_or cells j None ≡ Some member → P j member) → ((member : Cell) → o ≡ Some member → P i member)
    → (j : ℕ) (member : Cell) → get_or more j None ≡ Some member → P j member
one_more P cells more o i e long are is j member h = elim (cases_lt j (length cells)) [
  | inl before ↦ are j member (sym (get_or_before cells o None j before) ∙ (ap (λ xs. get_or xs j None) (sym e) ∙ h))
  | inr behind ↦ elim (cases_eq j (length cells)) [
    | inl here ↦
        let r : o ≡ Some member = sym (get_or_behind cells o None) ∙ (ap (λ n. get_or (cells ++ o ∷ []) n None) (sym here) ∙ (ap (λ xs. get_or xs j None) (sym e) ∙ h)) in
        subst (λ n. P n member) (sym (here ∙ long)) (is member r)
    | inr past ↦
        let n = length-append cells (o ∷ []) in
        let z : get_or (cells ++ o ∷ []) j None ≡ None = get_or_past (cells ++ o ∷ []) j None (omega arith) in
        absurd (false≢true (sym (ap is_some z) ∙ ap is_some (ap (λ xs. get_or xs j None) (sym e) ∙ h)))
  ]
]

pub one_more_cell : (plan : Plan) (cells more : List (Option Cell)) (o : Option Cell) (i : ℕ) → more ≡ cells ++ o ∷ [] → length cells ≡ i → AreCells plan cells
    → ((member : Cell) → o ≡ Some member → IsCell plan i member) → AreCells plan more
one_more_cell plan cells more o i e long are is = one_more (IsCell plan) cells more o i e long are is

pub one_more_listing : (lists : Bool) (cells more : List (Option Cell)) (o : Option Cell) (i : ℕ) → more ≡ cells ++ o ∷ [] → length cells ≡ i → AreListing lists cells
    → ((member : Cell) → o ≡ Some member → keeps_lists member.node ≡ lists) → AreListing lists more
one_more_listing lists cells more o i e long are is listed =
    one_more (λ j cell. keeps_lists cell.node ≡ true) cells more o i e long (are listed) (λ member h. is member h ∙ listed)

-- ---- first silences

pub first_taken : (l : Line) (nodes : ℕ) (old new : State) (emitted : Record) (b : Bool) (i : ℕ) → old.nodes ≡ nodes → emitted ≡ Silence i 0 (reach l i []) → b ≡ true
    → ((before : List Record) → old ≡ state_of old.nodes before → new ≡ state_of old.nodes (before ++ emitted ∷ []))
    → (before : List Record) → old ≡ state_of nodes before → new ≡ state_of nodes (before ++ (if b then Silence i 0 (reach l i []) ∷ [] else []))
first_taken l nodes old new emitted b i en et eb after before e =
    after before (e ∙ ap (λ n. state_of n before) (sym en))
    ∙ (ap (λ n. state_of n (before ++ emitted ∷ [])) en
    ∙ (ap (λ r. state_of nodes (before ++ r ∷ [])) et
    ∙ ap (λ rs. state_of nodes (before ++ rs)) (sym (cond-true b (Silence i 0 (reach l i []) ∷ []) [] eb))))

-- ---- what a group keeps

-- what begins makes the value that begins
pub begun_value : (lists : Bool) (plan copy : Plan) (chosen given : ℕ → Bool) (cells : List (Option Cell)) (replica : State) (emitted : List Record) → copy ≡ plan
    → ((i : ℕ) → chosen i ≡ given i) → ran_of cells ≡ (initial_group lists plan chosen).ran → replica ≡ (initial_group lists plan chosen).replica → emitted ≡ []
    → group_value copy lists cells replica emitted ≡ initial_group lists plan given
begun_value lists plan copy chosen given cells replica emitted ep ec er es et =
    (λ d. record { plan = ep d; lists = lists; ran = er d; replica = es d; emitted = et d }) ∙ ap (λ f. initial_group lists plan f) (λ d i. ec i d)

pub begun_kept : ValueLaws → (lists : Bool) (plan copy : Plan) (chosen given : ℕ → Bool) (cells : List (Option Cell)) (replica : State) (emitted : List Record) → IsChecked plan → copy ≡ plan
    → ((i : ℕ) → chosen i ≡ given i) → ran_of cells ≡ (initial_group lists plan chosen).ran → AreCells plan cells → AreListing lists cells → replica ≡ (initial_group lists plan chosen).replica → emitted ≡ []
    → IsKept copy lists cells replica emitted
begun_kept laws lists plan copy chosen given cells replica emitted c ep ec er are list es et = record {
  value = subst IsGroupValue (sym (begun_value lists plan copy chosen given cells replica emitted ep ec er es et)) (laws.begins lists plan c given);
  placed = subst (λ x. AreCells x cells) (sym ep) are;
  listing = list;
}

-- what is taken
pub true_fits : (nodes n : ℕ) (table : ℕ → List ℕ) (r : Record) → IsTrueOf nodes table r → n ≡ nodes → Fits n r
true_fits nodes n table (Edge i s t) h e = ((let b = h.0 in omega arith), h.2)
true_fits nodes n table (Silence i c u) h e = ((let b = h.0 in omega arith), h.2)
true_fits nodes n table (Clash i s) h e = absurd h

pub taken_value : (plan : Plan) (lists : Bool) (cells : List (Option Cell)) (replica new : State) (emitted : List Record) (r : Record) (v : GroupValue)
    → group_value plan lists cells replica emitted ≡ v → new ≡ state_with_record replica r → group_value plan lists cells new emitted ≡ with_records (r ∷ []) v
taken_value plan lists cells replica new emitted r v ev e = ap (λ s. group_value plan lists cells s emitted) e ∙ ap (with_records (r ∷ [])) ev

pub taken_kept : ValueLaws → (plan : Plan) (lists : Bool) (cells : List (Option Cell)) (replica new : State) (emitted : List Record) (r : Record) (v : GroupValue)
    → group_value plan lists cells replica emitted ≡ v → IsKept plan lists cells replica emitted → IsTrueOfPlan v.plan r → new ≡ state_with_record replica r → IsKept plan lists cells new emitted
taken_kept laws plan lists cells replica new emitted r v ev k t e = record {
  value = subst (λ s. IsGroupValue (group_value plan lists cells s emitted)) (sym e)
      (laws.takes (group_value plan lists cells replica emitted) k.value (r ∷ []) (subst (λ (x : GroupValue). IsTrueOfPlan x.plan r) (sym ev) t, tt));
  placed = k.placed;
  listing = k.listing;
}

pub joined_value : (plan : Plan) (lists : Bool) (cells : List (Option Cell)) (replica new : State) (emitted : List Record) (s : State) (v : GroupValue)
    → group_value plan lists cells replica emitted ≡ v → new ≡ states_joined replica s → group_value plan lists cells new emitted ≡ with_state s v
joined_value plan lists cells replica new emitted s v ev e = ap (λ x. group_value plan lists cells x emitted) e ∙ ap (with_state s) ev

pub joined_kept : ValueLaws → (plan : Plan) (lists : Bool) (cells : List (Option Cell)) (replica new : State) (emitted : List Record) (s : State) (v : GroupValue)
    → group_value plan lists cells replica emitted ≡ v → IsKept plan lists cells replica emitted → s.nodes ≡ length v.plan.nodes → IsOfRecords s
    → HoldsTrue (length v.plan.nodes) (table_of v.plan) (slots_of s) → new ≡ states_joined replica s → IsKept plan lists cells new emitted
joined_kept laws plan lists cells replica new emitted s v ev k n of t e = record {
  value = subst (λ x. IsGroupValue (group_value plan lists cells x emitted)) (sym e)
      (laws.joins (group_value plan lists cells replica emitted) k.value s (subst (λ (x : GroupValue). s.nodes ≡ length x.plan.nodes) (sym ev) n) of
      (subst (λ (x : GroupValue). HoldsTrue (length x.plan.nodes) (table_of x.plan) (slots_of s)) (sym ev) t));
  placed = k.placed;
  listing = k.listing;
}

-- a number that is no node is no member
pub belongs_past : (g : GroupValue) → IsGroupValue g → (i : ℕ) → length g.plan.nodes ≤ i → belongs g i ≡ false
belongs_past g v i b = (let e = v.one_each in ap is_some (get_or_past g.ran i None (omega arith)))
