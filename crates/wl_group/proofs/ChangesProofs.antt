-- The changes of a member, out of the slots that its group holds.
use Rattle.std.proofs.Common.{◌≡◌, ℕ, zero, suc, ◌<◌, true, Bool, List, [], ◌∷◌, ◌++◌, length, get_or, nat_le, Option, Some, None, is_some, refl, sym, ◌∙◌, ap, subst, arith}
use Rattle.std.specs.Prelude.{take, slice_get}
use Rattle.std.proofs.Math.Seq.{take-suc, take-length}
use Rattle.std.proofs.lemmas.Bool.{and_parts, leb-true, false≢true}
use Rattle.std.proofs.lemmas.List.{get_or_read}
use Rattle.std.proofs.lemmas.Option.{slice_get_within, get_or_from_slice_get}
use Rattle.wl_lattice.specs.declared.FlatWord.{FlatWord}
use Rattle.wl_lattice.specs.declared.FlatWord.TheVariants as flat
use Rattle.wl_record_core.specs.declared.record.Record.{Record}
use Rattle.wl_record_core.specs.Truth.{count_below}
use Rattle.wl_replica.specs.State.{State, slots_of}
use Rattle.wl_replica.specs.Known.{is_tick, tick_in, ticks}
use Rattle.wl_replica.specs.KnownLaws.{KnownLaws}
use Rattle.wl_plan.specs.declared.plan.Plan.{Plan}
use Rattle.wl_plan.specs.PlanLine.{line_of, table_of}
use Rattle.wl_plan.specs.SimulationLaws.{SimulationLaws}
use Rattle.wl_plan.specs.Checked.{CheckedIsSound}
use Rattle.wl_group.specs.declared.cell.Cell.{Cell}
use Rattle.wl_group.specs.Member.{next_tick}
use Rattle.wl_group.specs.Holds.{IsMember}
use Rattle.wl_group.specs.GroupValue.{GroupValue, IsGroupValue, belongs, members_now, has_ended}
use Rattle.wl_group.specs.Kept.{quanta_kept, group_value, IsKept}
use Rattle.wl_group.specs.ValueLaws.{ValueLaws}
use Rattle.wl_replica.proofs.Callers.{tick_is}
use Rattle.wl_group.proofs.RunProofs.{ran_get, in_cells, in_plan, own}

-- words that are a table's entries, as far as they are ticks, have its first ones in order
front_is : (e : ℕ → FlatWord) (ts : List ℕ) (m : ℕ) → ((n t : ℕ) → e n ≡ flat.Value t → slice_get ts n ≡ Some t) → ((n : ℕ) → n < m → is_tick (e n) ≡ true)
    → ticks e m ≡ take m ts
front_is e ts zero entries all = refl
front_is e ts (suc m) entries all =
    let g : slice_get ts m ≡ Some (tick_in (e m)) = entries m (tick_in (e m)) (tick_is (e m) (all m (omega arith))) in
    ap (λ xs. xs ++ tick_in (e m) ∷ []) (front_is e ts m entries (λ n b. all n (omega arith)))
    ∙ (ap (λ x. take m ts ++ x ∷ []) (sym (get_or_from_slice_get ts m (tick_in (e m)) 0 g))
    ∙ sym (take-suc ts m 0 (slice_get_within ts m (tick_in (e m)) g)))

-- those before its next quantum are all, where that is not below the end
all_before : SimulationLaws → CheckedIsSound → (g : GroupValue) → IsGroupValue g → (i : ℕ) → i < length g.plan.nodes → has_ended g i ≡ true
    → take (count_below (next_tick (line_of g.plan) i (members_now g i)) (table_of g.plan i)) (table_of g.plan i) ≡ table_of g.plan i
all_before sims sound g v i b ended =
    let late = leb-true g.plan.end (next_tick (line_of g.plan) i (members_now g i)) (and_parts (belongs g i) (nat_le g.plan.end (next_tick (line_of g.plan) i (members_now g i))) ended).1 in
    ap (λ m. take m (table_of g.plan i)) (sims.all_at_end (line_of g.plan) i (next_tick (line_of g.plan) i (members_now g i)) (sound g.plan v.checked).causal b late)
    ∙ take-length (table_of g.plan i)

module _ (laws : ValueLaws) (sound : CheckedIsSound) (knows : KnownLaws) (sims : SimulationLaws) (plan : Plan) (lists : Bool) (cells : List (Option Cell)) (replica : State) (emitted : List Record)
    (kept : IsKept plan lists cells replica emitted) (now : GroupValue) (view : ◌≡◌ {A = GroupValue} (group_value plan lists cells replica emitted) now)
    (i : ℕ) (member : belongs now i ≡ true) (cell : Cell) (is : get_or cells i None ≡ Some cell) where
  inside : i < length plan.nodes
  inside = in_plan laws sound plan lists cells replica emitted kept now view i cell is

  placed : IsMember (line_of plan) i (members_now (group_value plan lists cells replica emitted) i) (slots_of replica)
  placed = kept.value.holds.each i inside (subst (λ (v : GroupValue). belongs v i ≡ true) (sym view) member)

  count : cell.changed ≡ count_below (next_tick (line_of plan) i (members_now (group_value plan lists cells replica emitted) i)) (table_of plan i)
  count = (own laws sound plan lists cells replica emitted kept now view i cell is).changed ∙ placed.count

  pub held : (n : ℕ) → n < cell.changed → is_tick ((slots_of replica).edge i n) ≡ true
  held n b =
      knows.changes_held (length plan.nodes) (table_of plan) (slots_of replica) i (next_tick (line_of plan) i (members_now (group_value plan lists cells replica emitted) i)) n
      (sims.changes_increase (line_of plan) i) kept.value.holds.truth placed.known (subst (λ m. n < m) count b)

  so_far : ticks ((slots_of replica).edge i) cell.changed
      ≡ take (count_below (next_tick (line_of now.plan) i (members_now now i)) (table_of now.plan i)) (table_of now.plan i)
  so_far =
      front_is ((slots_of replica).edge i) (table_of plan i) cell.changed (λ n t e. (kept.value.holds.truth.edges i n t e).1) held
      ∙ (ap (λ m. take m (table_of plan i)) count
      ∙ ap (λ (v : GroupValue). take (count_below (next_tick (line_of v.plan) i (members_now v i)) (table_of v.plan i)) (table_of v.plan i)) view)

  pub before : (list : List ℕ) → list ≡ ticks ((slots_of replica).edge i) cell.changed
      → list ≡ take (count_below (next_tick (line_of now.plan) i (members_now now i)) (table_of now.plan i)) (table_of now.plan i)
  before list e = e ∙ so_far

  pub whole : has_ended now i ≡ true → (list : List ℕ) → list ≡ ticks ((slots_of replica).edge i) cell.changed → list ≡ table_of now.plan i
  whole ended list e =
      before list e
      ∙ all_before sims sound now (subst IsGroupValue view kept.value) i (subst (λ (v : GroupValue). i < length v.plan.nodes) view inside) ended

-- a member is kept
pub absent : ValueLaws → (sound : CheckedIsSound) (plan : Plan) (lists : Bool) (cells : List (Option Cell)) (replica : State) (emitted : List Record) → IsKept plan lists cells replica emitted → (now : GroupValue)
    → ◌≡◌ {A = GroupValue} (group_value plan lists cells replica emitted) now → (i : ℕ) → belongs now i ≡ true → (o : Option Cell) → o ≡ get_or cells i o → o ≡ None → ⊥
absent laws sound plan lists cells replica emitted kept now view i member o read none =
    let b = in_cells laws sound plan lists cells replica emitted kept now view i member in
    let e : get_or cells i None ≡ None = sym (get_or_read cells i o b read None) ∙ none in
    false≢true (sym (ap is_some (ran_get cells i ∙ ap quanta_kept e)) ∙ subst (λ (v : GroupValue). belongs v i ≡ true) (sym view) member)
