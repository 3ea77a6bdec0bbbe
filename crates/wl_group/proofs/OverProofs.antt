-- What a group keeps, where a member ran quanta in a row through stretches of the line.
use Rattle.std.proofs.Common.{◌≡◌, ℕ, suc, ◌+◌, ◌<◌, ◌≤◌, ◌++◌, true, Bool, List, length, get_or, Option, Some, None, is_some, inl, inr, nat_lt, refl, sym, ◌∙◌, ap, subst, arith}
use Rattle.std.specs.Prelude.{min}
use Rattle.std.proofs.Math.ListN.{set}
use Rattle.std.proofs.lemmas.Bool.{cases_eq, and_parts, ltb-true}
use Rattle.std.proofs.lemmas.List.{get_or-set_same}
use Rattle.wl_record_core.specs.declared.record.Record.{Record}
use Rattle.wl_record_core.specs.TableLaws.{TableLaws}
use Rattle.wl_replica.specs.SlotsOf.{SlotsOfStates}
use Rattle.wl_replica.specs.State.{State, slots_of, state_with_records}
use Rattle.wl_replica.specs.Known.{place_horizon}
use Rattle.wl_replica.specs.KnownLaws.{SlotsLaws, KnownLaws}
use Rattle.wl_node.specs.Reached.{quanta_of}
use Rattle.wl_plan.specs.declared.plan.Plan.{Plan}
use Rattle.wl_plan.specs.PlanLine.{line_of}
use Rattle.wl_plan.specs.Simulation.{AreInside}
use Rattle.wl_plan.specs.SimulationLaws.{SimulationLaws}
use Rattle.wl_plan.specs.Checked.{CheckedIsSound}
use Rattle.wl_group.specs.declared.cell.Cell.{Cell}
use Rattle.wl_group.specs.Member.{next_tick, can_run}
use Rattle.wl_group.specs.GroupLaws.{GroupLaws}
use Rattle.wl_group.specs.ValueLaws.{ValueLaws}
use Rattle.wl_group.specs.GroupValue.{GroupValue, IsGroupValue, quanta_at, belongs, member_at, members_now, may_run, emission_at, run_on}
use Rattle.wl_group.specs.Kept.{ran_of, group_value, IsKept}
use Rattle.wl_group.specs.Running.{HasRunNext}
use Rattle.wl_group.specs.Going.{gone_on, HasGoneOn, IsKnownAt, IsKnownUpTo}
use Rattle.wl_group.specs.Through.{spoken, HasGoneOver, MaySayOver}
use Rattle.wl_replica.proofs.Callers.{some_is}
use Rattle.wl_group.proofs.RunProofs.{ran_is, in_plan, ran_new, cells_new, listing_new, some_there, left_set}
use Rattle.wl_group.proofs.GoingProofs.{spoken_is}
use Rattle.wl_group.proofs.GoneProofs.{fits, value_gone, gone_over}

-- the tick of its next quantum is what it keeps
module _ (laws : ValueLaws) (sims : SimulationLaws) (sound : CheckedIsSound)
    (plan : Plan) (lists : Bool) (cells : List (Option Cell)) (replica : State) (emitted : List Record) (kept : IsKept plan lists cells replica emitted)
    (now : GroupValue) (view : ◌≡◌ {A = GroupValue} (group_value plan lists cells replica emitted) now) (i : ℕ) (cell : Cell) (is : get_or cells i None ≡ Some cell) where
  at_here : quanta_at (group_value plan lists cells replica emitted) i ≡ Some (quanta_of cell.node)
  at_here = ran_is laws sound plan lists cells replica emitted kept now view i cell is

  pub next_kept : cell.next ≡ next_tick (line_of now.plan) i (members_now now i)
  next_kept =
      let l = line_of plan in
      let e : next_tick (line_of now.plan) i (members_now now i) ≡ l.instant i (quanta_of cell.node) =
      ap (λ (w : GroupValue). next_tick (line_of w.plan) i (members_now w i)) (sym view)
      ∙ (ap (λ q. next_tick l i (member_at l i q)) at_here ∙ ap (l.instant i) (sims.length_seen l i (quanta_of cell.node))) in
      (kept.placed i cell is).next ∙ sym e

  pub inside_kept : AreInside (line_of plan) i (quanta_of cell.node)
  inside_kept = (laws.quanta_few (group_value plan lists cells replica emitted) kept.value i (quanta_of cell.node) at_here).2

module _ (laws : ValueLaws) (groups : GroupLaws) (tables : TableLaws) (joins : SlotsLaws) (knows : KnownLaws) (sims : SimulationLaws) (states : SlotsOfStates) (sound : CheckedIsSound)
    (plan : Plan) (lists : Bool) (cells : List (Option Cell)) (replica : State) (emitted : List Record) (kept : IsKept plan lists cells replica emitted)
    (now : GroupValue) (view : ◌≡◌ {A = GroupValue} (group_value plan lists cells replica emitted) now) (i : ℕ) (cell : Cell) (is : get_or cells i None ≡ Some cell)
    (end : ℕ) (stop : end ≤ plan.end) (far : end ≤ place_horizon (length plan.nodes) (line_of plan).delay (slots_of replica) i) where
  ran : quanta_at (group_value plan lists cells replica emitted) i ≡ Some (quanta_of cell.node)
  ran = ran_is laws sound plan lists cells replica emitted kept now view i cell is

  pub may_say_over : MaySayOver plan i end cell replica.nodes
  may_say_over n early stays =
      fits laws groups tables joins knows sims states sound (group_value plan lists cells replica emitted) kept.value i (quanta_of cell.node) ran n
      (λ j c. let e = early j c in omega arith) (λ j c. let e = early j c in omega arith) stays

  module _ (new : Cell) (said : List Record) (gone : HasGoneOver plan i end cell new said) (replica_new : State) (emitted_new : List Record)
      (taken : replica_new ≡ state_with_records replica said) (appended : emitted_new ≡ emitted ++ said) where
    early : (j : ℕ) → j ≤ gone.n → (line_of plan).instant i (quanta_of cell.node + j) < plan.end
    early j c = (let e = gone.early j c in omega arith)

    known : (j : ℕ) → j ≤ gone.n → (line_of plan).instant i (quanta_of cell.node + j) < place_horizon (length plan.nodes) (line_of plan).delay (slots_of replica) i
    known j c = (let e = gone.early j c in omega arith)

    value_is : ◌≡◌ {A = GroupValue} (group_value plan lists (set cells i (Some new)) replica_new emitted_new)
        (gone_on (group_value plan lists cells replica emitted) i (quanta_of cell.node + suc gone.n) (spoken (line_of plan) i (quanta_of cell.node + gone.n)))
    value_is =
        let quanta : ran_of (set cells i (Some new)) ≡ set (ran_of cells) i (Some (quanta_of cell.node + suc gone.n)) =
        ran_new laws sound plan lists cells replica emitted kept now view i cell is new ∙ ap (λ k. set (ran_of cells) i (Some k)) gone.quanta in
        let known_is : replica_new ≡ state_with_records replica (spoken (line_of plan) i (quanta_of cell.node + gone.n)) = taken ∙ ap (state_with_records replica) gone.says in
        let more : emitted_new ≡ emitted ++ spoken (line_of plan) i (quanta_of cell.node + gone.n) = appended ∙ ap (λ rs. emitted ++ rs) gone.says in
        λ d. record { plan = plan; lists = lists; ran = quanta d; replica = known_is d; emitted = more d }

    pub kept_over : IsKept plan lists (set cells i (Some new)) replica_new emitted_new
    kept_over = record {
      value = subst IsGroupValue (sym value_is)
          (value_gone laws groups tables joins knows sims states sound (group_value plan lists cells replica emitted) kept.value i (quanta_of cell.node) ran gone.n early known gone.stays);
      placed = cells_new laws sound plan lists cells replica emitted kept now view i cell is new gone.after;
      listing = listing_new laws sound plan lists cells replica emitted kept now view i cell is new gone.keeps;
    }

    pub has_gone_over : HasGoneOn i now (group_value plan lists (set cells i (Some new)) replica_new emitted_new) said
    has_gone_over =
        let g : GroupValue = group_value plan lists cells replica emitted in
        let to : GroupValue = gone_on g i (quanta_of cell.node + suc gone.n) (spoken (line_of plan) i (quanta_of cell.node + gone.n)) in
        subst (λ (x : GroupValue). HasGoneOn i x (group_value plan lists (set cells i (Some new)) replica_new emitted_new) said) view
        (subst (λ (x : GroupValue). HasGoneOn i g x said) (sym value_is)
        (subst (λ (rs : List Record). HasGoneOn i g to rs) (sym gone.says)
        (gone_over laws groups tables joins knows sims states sound g kept.value i (quanta_of cell.node) ran gone.n early known gone.stays)))

    -- in a row that ends with the next tick it ran one quantum, as the group runs its next one
    module _ (may : may_run now i ≡ true) (one : end ≡ suc cell.next) where
      alone : gone.n ≡ 0
      alone = elim (cases_eq gone.n 0) [
        | inl none ↦ none
        | inr some ↦
            let l = line_of plan in
            let k = quanta_of cell.node in
            let causal = (sound plan kept.value.checked).causal in
            let b = in_plan laws sound plan lists cells replica emitted kept now view i cell is in
            let first = causal.clocks i k b in
            let later = sims.clock_later l i (suc k) (k + gone.n) causal b (omega arith) in
            let last = gone.early gone.n (omega arith) in
            let here = (kept.placed i cell is).next in
            absurd (omega (arith, first, later, last, here, one))
      ]

      may_here : may_run (group_value plan lists cells replica emitted) i ≡ true
      may_here = subst (λ (x : GroupValue). may_run x i ≡ true) (sym view) may

      said_here : spoken (line_of plan) i (quanta_of cell.node + gone.n) ≡ emission_at (group_value plan lists cells replica emitted) i
      said_here =
          ap (spoken (line_of plan) i) (let e : quanta_of cell.node + gone.n ≡ quanta_of cell.node = omega (arith, alone) in e)
          ∙ sym (spoken_is laws groups sims sound (group_value plan lists cells replica emitted) kept.value i (quanta_of cell.node) ran may_here)

      value_next : ◌≡◌ {A = GroupValue} (group_value plan lists (set cells i (Some new)) replica_new emitted_new) (run_on i (quanta_of cell.node) (group_value plan lists cells replica emitted))
      value_next =
          let e : quanta_of cell.node + suc gone.n ≡ suc (quanta_of cell.node) = omega (arith, alone) in
          value_is ∙ (λ d. gone_on (group_value plan lists cells replica emitted) i (e d) (said_here d))

      ran_next : HasRunNext i (group_value plan lists cells replica emitted) (run_on i (quanta_of cell.node) (group_value plan lists cells replica emitted)) (emission_at (group_value plan lists cells replica emitted) i)
      ran_next =
          let g : GroupValue = group_value plan lists cells replica emitted in
          let k = quanta_of cell.node in
          let on = laws.runs g kept.value i k ran may_here in
          let few = (laws.quanta_few (run_on i k g) on i (suc k) (get_or-set_same g.ran i (Some (suc k)) None (some_there g.ran i k ran))).1 in
          record {
            node = in_plan laws sound plan lists cells replica emitted kept now view i cell is;
            emits = refl;
            runs = λ m e. ap (λ q. run_on i q g) (some_is k m (sym ran ∙ e));
            emitted = λ p h. laws.emits_as g p i h (ap is_some ran);
            after = λ p h. laws.runs_as g kept.value p i k h ran may_here;
            plan = refl;
            lists = refl;
            members = laws.runs_with g i k ran;
            fewer = left_set g.ran i k ran (omega (arith, few));
          }

      pub has_run_next : HasRunNext i now (group_value plan lists (set cells i (Some new)) replica_new emitted_new) said
      has_run_next =
          let g : GroupValue = group_value plan lists cells replica emitted in
          subst (λ (x : GroupValue). HasRunNext i x (group_value plan lists (set cells i (Some new)) replica_new emitted_new) said) view
          (subst (λ (x : GroupValue). HasRunNext i g x said) (sym value_next)
          (subst (λ (rs : List Record). HasRunNext i g (run_on i (quanta_of cell.node) g) rs) (sym (gone.says ∙ said_here)) ran_next))

-- a member that may run is due before the end, and before what is known at its place
pub due_before : (g : GroupValue) (i known end : ℕ) → may_run g i ≡ true → IsKnownUpTo g i known → end ≡ min known g.plan.end
    → (next_tick (line_of g.plan) i (members_now g i) < end) × (end ≤ place_horizon (length g.plan.nodes) (line_of g.plan).delay (slots_of g.replica) i) × (end ≤ g.plan.end)
due_before g i known end may is e =
    let l = line_of g.plan in
    let t = next_tick l i (members_now g i) in
    let far = place_horizon l.nodes l.delay (slots_of g.replica) i in
    let can = and_parts (nat_lt t l.stop) (nat_lt t far) (and_parts (belongs g i) (can_run l i (members_now g i) (slots_of g.replica)) may).1 in
    let early = ltb-true t l.stop can.0 in
    let due = is.due in
    let below = is.known in
    (omega (arith, early, due, e), omega (arith, below, e), omega (arith, e))

-- its next quantum is before the end, and before what is known at its place
pub next_before : (g : GroupValue) (i : ℕ) → may_run g i ≡ true
    → (next_tick (line_of g.plan) i (members_now g i) < g.plan.end) × (next_tick (line_of g.plan) i (members_now g i) < place_horizon (length g.plan.nodes) (line_of g.plan).delay (slots_of g.replica) i)
next_before g i may =
    let l = line_of g.plan in
    let t = next_tick l i (members_now g i) in
    let far = place_horizon l.nodes l.delay (slots_of g.replica) i in
    let can = and_parts (nat_lt t l.stop) (nat_lt t far) (and_parts (belongs g i) (can_run l i (members_now g i) (slots_of g.replica)) may).1 in
    (ltb-true t l.stop can.0, ltb-true t far can.1)

-- so the place is known up to what is known there, and up to the tick after that of its next quantum
pub up_to_known : (g : GroupValue) (i known : ℕ) → may_run g i ≡ true → IsKnownAt g i known → IsKnownUpTo g i known
up_to_known g i known may is = let b = (next_before g i may).1 in record { due = omega (arith, b, is); known = omega (arith, is) }

pub up_to_next : (g : GroupValue) (i tick : ℕ) → may_run g i ≡ true → tick ≡ suc (next_tick (line_of g.plan) i (members_now g i)) → IsKnownUpTo g i tick
up_to_next g i tick may is = let b = (next_before g i may).1 in record { due = omega (arith, is); known = omega (arith, b, is) }
