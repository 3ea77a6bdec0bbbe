-- One quantum of a member, from what a group keeps to what its contracts see.
use Rattle.std.proofs.Common.{◌≡◌, ℕ, zero, suc, ◌<◌, ◌≤◌, true, inl, inr, Bool, List, [], ◌∷◌, length, get_or, All, Option, Some, None, refl, sym, ◌∙◌, ap, subst, arith, nat_lt}
use Rattle.std.proofs.Math.ListN.{set}
use Rattle.std.proofs.lemmas.Bool.{cases_lt, cases_eq}
use Rattle.std.proofs.lemmas.List.{get_or_read, get_or_past, get_or-set_same, get_or-set_other}
use Rattle.std.proofs.lemmas.List.Elements.{All-from_recursion, All-weaker}
use Rattle.std.proofs.lemmas.List.Sums.{count_by-le-length}
use Rattle.wl_record_core.specs.declared.record.Record.{Record}
use Rattle.wl_record_core.specs.declared.record.Record.TheVariants.{Edge, Clash, Silence}
use Rattle.wl_record_core.specs.Limits.{most_edges}
use Rattle.wl_record_core.specs.Truth.{IsTrueOf, AreTrueOf}
use Rattle.wl_replica.specs.State.{State, Fits}
use Rattle.wl_node.specs.Reached.{keeps_lists, quanta_of}
use Rattle.wl_plan.specs.declared.plan.Plan.{Plan}
use Rattle.wl_plan.specs.Limits.{most_quanta}
use Rattle.wl_plan.specs.PlanLine.{line_of, table_of}
use Rattle.wl_plan.specs.Simulation.{AreInside}
use Rattle.wl_plan.specs.Checked.{CheckedIsSound}
use Rattle.wl_group.specs.declared.cell.Cell.{Cell}
use Rattle.wl_group.specs.GroupValue.{GroupValue, IsGroupValue, quanta_at, belongs, member_after, member_at, members_now}
use Rattle.wl_group.specs.Kept.{quanta_kept, ran_of, group_value, IsCell, AreCells, AreListing, IsKept}
use Rattle.wl_group.specs.Running.{IsCellOf, HasNotGone, quanta_to_come}
use Rattle.wl_group.specs.ValueLaws.{ValueLaws}
use Rattle.wl_group.proofs.Facts.{is_there}
use Rattle.wl_replica.proofs.Callers.{some_is}

-- ---- places of a list

pub ran_get : (cells : List (Option Cell)) (i : ℕ) → get_or (ran_of cells) i None ≡ quanta_kept (get_or cells i None)
ran_get [] i = refl
ran_get (x ∷ xs) zero = refl
ran_get (x ∷ xs) (suc i) = ran_get xs i

ran_set : (cells : List (Option Cell)) (i : ℕ) (o : Option Cell) → ran_of (set cells i o) ≡ set (ran_of cells) i (quanta_kept o)
ran_set [] i o = refl
ran_set (x ∷ xs) zero o = refl
ran_set (x ∷ xs) (suc i) o = ap (λ ys. quanta_kept x ∷ ys) (ran_set xs i o)

pub set_own : (xs : List (Option ℕ)) (i k : ℕ) → get_or xs i None ≡ Some k → set xs i (Some k) ≡ xs
set_own [] i k h = refl
set_own (x ∷ xs) zero k h = ap (λ y. y ∷ xs) (sym h)
set_own (x ∷ xs) (suc i) k h = ap (λ ys. x ∷ ys) (set_own xs i k h)

-- a place that holds something is there
pub some_there : {A : Type 0} (xs : List (Option A)) (i : ℕ) (x : A) → get_or xs i None ≡ Some x → i < length xs
some_there {A} xs i x h =
    elim (cases_lt i (length xs)) [
      | inl there ↦ there
      | inr past ↦ (let e : get_or xs i None ≡ None = get_or_past xs i None past in let f : None ≡ Some x = sym e ∙ h in absurd cc)
    ]

pub same_length : (cells : List (Option Cell)) → length (ran_of cells) ≡ length cells
same_length [] = refl
same_length (x ∷ xs) = ap suc (same_length xs)

pub set_there : {A : Type 0} (xs : List A) (i : ℕ) (a b : A) → set (set xs i a) i b ≡ set xs i b
set_there [] i a b = refl
set_there (x ∷ xs) zero a b = refl
set_there {A} (x ∷ xs) (suc i) a b = ap (λ ys. x ∷ ys) (set_there xs i a b)

-- ---- how many quanta are left

pub left_set : (xs : List (Option ℕ)) (i k : ℕ) → get_or xs i None ≡ Some k → k < most_quanta → quanta_to_come (set xs i (Some (suc k))) < quanta_to_come xs
left_set [] i k h b = absurd cc
left_set (None ∷ xs) zero k h b = absurd cc
left_set (Some n ∷ xs) zero k h b = let e : n ≡ k = some_is n k h in omega arith
left_set (None ∷ xs) (suc i) k h b = left_set xs i k h b
left_set (Some n ∷ xs) (suc i) k h b = let e = left_set xs i k h b in omega arith

-- ---- true records fit

fits_one : (nodes : ℕ) (table : ℕ → List ℕ) (r : Record) → IsTrueOf nodes table r → Fits nodes r
fits_one nodes table (Edge i s t) h = (h.0, h.2)
fits_one nodes table (Clash i s) h = absurd h
fits_one nodes table (Silence i n u) h = (h.0, h.2)

pub true_fits : (nodes : ℕ) (table : ℕ → List ℕ) (rs : List Record) → AreTrueOf nodes table rs → All (Fits nodes) rs
true_fits nodes table rs h = All-weaker (IsTrueOf nodes table) (Fits nodes) (fits_one nodes table) rs (All-from_recursion (IsTrueOf nodes table) rs h)

-- ---- a member's cell

-- what was read of the list of cells
pub cell_read : (cells : List (Option Cell)) (i : ℕ) (o : Option Cell) (cell : Cell) → i < length cells → o ≡ get_or cells i o → o ≡ Some cell → get_or cells i None ≡ Some cell
cell_read cells i o cell b r is = sym (get_or_read cells i o b r None) ∙ is

-- What the group keeps, the value that contracts see of it, and a member of it.
module _ (laws : ValueLaws) (sound : CheckedIsSound) (plan : Plan) (lists : Bool) (cells : List (Option Cell)) (replica : State) (emitted : List Record) (kept : IsKept plan lists cells replica emitted)
    (now : GroupValue) (view : ◌≡◌ {A = GroupValue} (group_value plan lists cells replica emitted) now) (i : ℕ) where
  pub in_cells : belongs now i ≡ true → i < length cells
  in_cells o =
      let here : belongs (group_value plan lists cells replica emitted) i ≡ true = subst (λ (v : GroupValue). belongs v i ≡ true) (sym view) o in
      let k = is_there (get_or (ran_of cells) i None) here in
      let b = some_there (ran_of cells) i k.0 k.1 in
      let e = same_length cells in
      omega arith

  module _ (cell : Cell) (is : get_or cells i None ≡ Some cell) where
    pub ran_is : quanta_at (group_value plan lists cells replica emitted) i ≡ Some (quanta_of cell.node)
    ran_is = ran_get cells i ∙ ap quanta_kept is

    few : (i < length plan.nodes) × (quanta_of cell.node ≤ most_quanta) × AreInside (line_of plan) i (quanta_of cell.node)
    few = laws.quanta_few (group_value plan lists cells replica emitted) kept.value i (quanta_of cell.node) ran_is

    pub in_plan : i < length plan.nodes
    in_plan = few.0

    pub few_quanta : quanta_of cell.node ≤ most_quanta
    few_quanta = few.1

    pub few_changed : cell.changed ≤ most_edges
    few_changed =
        let c = (kept.placed i cell is).changed in
        let m = count_by-le-length (λ u. nat_lt u ((line_of plan).instant i (quanta_of cell.node))) (table_of plan i) in
        let f = (sound plan kept.value.checked).few_changes i in_plan in
        omega arith

    member_is : members_now (group_value plan lists cells replica emitted) i ≡ member_after (line_of plan) i (quanta_of cell.node)
    member_is = ap (member_at (line_of plan) i) ran_is

    -- it stands where the machine's member does
    pub own : IsCellOf plan i (members_now (group_value plan lists cells replica emitted) i) cell
    own =
        let c = kept.placed i cell is in
        subst (λ m. IsCellOf plan i m cell) (sym member_is) (record { setup = c.setup; node = c.node; changed = c.changed; next = c.next; ways = c.ways })

    -- a list of cells in which it has another state
    module _ (new : Cell) where
      pub ran_new : ran_of (set cells i (Some new)) ≡ set (ran_of cells) i (Some (quanta_of new.node))
      ran_new = ran_set cells i (Some new)

      pub cells_new : IsCell plan i new → AreCells plan (set cells i (Some new))
      cells_new own_new j c e = elim (cases_eq j i) [
        | inl same ↦
            let f : new ≡ c = some_is new c (sym (get_or-set_same cells i (Some new) None (some_there cells i cell is)) ∙ (ap (λ n. get_or (set cells i (Some new)) n None) (sym same) ∙ e)) in
            subst (λ n. IsCell plan n c) (sym same) (subst (IsCell plan i) f own_new)
        | inr other ↦ kept.placed j c (sym (get_or-set_other cells i j (Some new) None other) ∙ e)
      ]

      -- it lists its samples and phase errors as before
      pub listing_new : keeps_lists new.node ≡ keeps_lists cell.node → AreListing lists (set cells i (Some new))
      listing_new same listed j c e = elim (cases_eq j i) [
        | inl here ↦
            let f : new ≡ c = some_is new c (sym (get_or-set_same cells i (Some new) None (some_there cells i cell is)) ∙ (ap (λ n. get_or (set cells i (Some new)) n None) (sym here) ∙ e)) in
            subst (λ (x : Cell). keeps_lists x.node ≡ true) f (same ∙ kept.listing listed i cell is)
        | inr other ↦ kept.listing listed j c (sym (get_or-set_other cells i j (Some new) None other) ∙ e)
      ]

      -- no quantum was run
      module _ (not : HasNotGone cell new) (replica_new : State) (emitted_new : List Record) (untaken : replica_new ≡ replica) (unemitted : emitted_new ≡ emitted) where
        pub value_stays : ◌≡◌ {A = GroupValue} (group_value plan lists (set cells i (Some new)) replica_new emitted_new) (group_value plan lists cells replica emitted)
        value_stays =
            let ran : ran_of (set cells i (Some new)) ≡ ran_of cells = ran_new ∙ (ap (λ k. set (ran_of cells) i (Some k)) not.quanta ∙ set_own (ran_of cells) i (quanta_of cell.node) ran_is) in
            λ d. record { plan = plan; lists = lists; ran = ran d; replica = untaken d; emitted = unemitted d }

        pub kept_stays : IsKept plan lists (set cells i (Some new)) replica_new emitted_new
        kept_stays =
            let c = kept.placed i cell is in
            let s = not.same plan i (member_after (line_of plan) i (quanta_of cell.node)) (record { setup = c.setup; node = c.node; changed = c.changed; next = c.next; ways = c.ways }) in
            let at : IsCellOf plan i (member_after (line_of plan) i (quanta_of new.node)) new = subst (λ k. IsCellOf plan i (member_after (line_of plan) i k) new) (sym not.quanta) s in
            record {
              value = subst IsGroupValue (sym value_stays) kept.value;
              placed = cells_new (record { setup = at.setup; node = at.node; changed = at.changed; next = at.next; ways = at.ways });
              listing = listing_new not.keeps;
            }
