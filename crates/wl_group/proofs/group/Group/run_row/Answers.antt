-- A row of quanta of a member: what it says fits the replica, and the group went on by it.
use Rattle.std.proofs.Common.{◌≡◌, ℕ, ◌<◌, ◌≤◌, Bool, List, length, get_or, Option, Some, None, true, sym, ◌∙◌, ap, subst, arith}
use Rattle.std.specs.Prelude.{min}
use Rattle.std.proofs.lemmas.Bool.{and_parts}
use Rattle.wl_record_core.specs.declared.record.Record.{Record}
use Rattle.wl_replica.specs.State.{State, slots_of}
use Rattle.wl_replica.specs.Known.{place_horizon}
use Rattle.wl_plan.specs.declared.plan.Plan.{Plan}
use Rattle.wl_plan.specs.PlanLine.{line_of}
use Rattle.wl_plan.specs.Checked.{CheckedIsSound}
use Rattle.wl_group.specs.declared.cell.Cell.{Cell}
use Rattle.wl_group.specs.Member.{can_run, next_tick}
use Rattle.wl_group.specs.ValueLaws.{ValueLaws}
use Rattle.wl_group.specs.GroupValue.{GroupValue, belongs, members_now, may_run}
use Rattle.wl_group.specs.Kept.{group_value, IsKept}
use Rattle.wl_group.specs.Through.{AreAhead}
use Rattle.wl_group.proofs.Facts.{on_err}
use Rattle.wl_group.proofs.RunProofs.{cell_read, in_cells, few_changed, value_stays, kept_stays}
use Rattle.wl_group.proofs.OverProofs.{next_kept, inside_kept, may_say_over, kept_over, has_gone_over, has_run_next, due_before, next_before}
use Rattle.wl_group.proofs.group.Group.run_row.Goals as goal
use Rattle.wl_group.proofs.group.Group.run_row.Goals.{In-Some}

-- the member's cell, where one was found
found : (laws : ValueLaws) (sound : CheckedIsSound) (plan : Plan) (lists : Bool) (cells : List (Option Cell)) (replica : State) (emitted : List Record) (kept : IsKept plan lists cells replica emitted)
    (now : GroupValue) (view : ◌≡◌ {A = GroupValue} (group_value plan lists cells replica emitted) now) (i : ℕ) → may_run now i ≡ true
    → (o : Option Cell) (cell : Cell) → o ≡ get_or cells i o → o ≡ Some cell → get_or cells i None ≡ Some cell
found laws sound plan lists cells replica emitted kept now view i may o cell r is =
    let parts = and_parts (belongs now i) (can_run (line_of now.plan) i (members_now now i) (slots_of now.replica)) may in
    cell_read cells i o cell (in_cells laws sound plan lists cells replica emitted kept now view i parts.0) r is

-- the group is as it was before the line was looked at
as_it_was : (c : In-Some) → ◌≡◌ {A = GroupValue} (group_value c.self-2.inside.plan c.self-2.inside.lists c.self-2.inside.cells.items c.self-2.inside.replica c.self-2.inside.emitted.items) c.args.self.now
as_it_was c = c.self-2.view_is ∙ c.look_ahead.ensures.same

-- and has this cell
cell_is : (c : In-Some) → get_or c.self-2.inside.cells.items c.args.i None ≡ Some c.in-Some.cell
cell_is c =
    let g = c.self-2.inside in
    found c.value_laws.ensures c.checked_is_sound.ensures g.plan g.lists g.cells.items g.replica g.emitted.items c.self-2.invariant.kept c.args.self.now (as_it_was c) c.args.i c.requires.may
    c.index_mut.result.now c.in-Some.cell c.index_mut.ensures.value c.in-Some.is

-- the row's end
end_is : (c : In-Some) → c.min-end.result ≡ min c.args.known c.args.self.now.plan.end
end_is c =
    c.min-end.ensures ∙ (ap (λ (p : Plan). min c.args.known p.end) c.deref.ensures.0 ∙ ap (λ (x : GroupValue). min c.args.known x.plan.end) c.self.view_is)

-- its next quantum is before that; the line at its place is known so far, and the plan's end is no earlier
ends : (c : In-Some) → (next_tick (line_of c.args.self.now.plan) c.args.i (members_now c.args.self.now c.args.i) < c.min-end.result)
    × (c.min-end.result ≤ place_horizon (length c.args.self.now.plan.nodes) (line_of c.args.self.now.plan).delay (slots_of c.args.self.now.replica) c.args.i)
    × (c.min-end.result ≤ c.args.self.now.plan.end)
ends c = due_before c.args.self.now c.args.i c.args.known c.min-end.result c.requires.may c.requires.known (end_is c)

stop : (c : In-Some) → c.min-end.result ≤ c.self-2.inside.plan.end
stop c = subst (λ (x : GroupValue). c.min-end.result ≤ x.plan.end) (sym (as_it_was c)) (ends c).2

far : (c : In-Some) → c.min-end.result ≤ place_horizon (length c.self-2.inside.plan.nodes) (line_of c.self-2.inside.plan).delay (slots_of c.self-2.inside.replica) c.args.i
far c =
    subst (λ (x : GroupValue). c.min-end.result ≤ place_horizon (length x.plan.nodes) (line_of x.plan).delay (slots_of x.replica) c.args.i) (sym (as_it_was c)) (ends c).1

-- the tick of its next quantum is what it keeps
next_is : (c : In-Some) → c.in-Some.cell.next ≡ next_tick (line_of c.args.self.now.plan) c.args.i (members_now c.args.self.now c.args.i)
next_is c =
    let g = c.self-2.inside in
    next_kept c.value_laws.ensures c.simulation_laws.ensures c.checked_is_sound.ensures g.plan g.lists g.cells.items g.replica g.emitted.items c.self-2.invariant.kept c.args.self.now (as_it_was c) c.args.i
    c.in-Some.cell (cell_is c)

pub run_over-requires-clause-cell : goal.run_over-requires-clause-cell
run_over-requires-clause-cell c = c.self-2.invariant.kept.placed c.args.i c.in-Some.cell (cell_is (goal.at.run_over-requires-clause-cell c).In-Some)

pub run_over-requires-clause-ahead : goal.run_over-requires-clause-ahead
run_over-requires-clause-ahead c =
    let at = (goal.at.run_over-requires-clause-ahead c).In-Some in
    let now = c.args.self.now in
    let i = c.args.i in
    let t = next_tick (line_of now.plan) i (members_now now i) in
    let ss = c.look_ahead.new.ahead.stretches in
    let n = c.look_ahead.new.ahead.count in
    subst (λ x. AreAhead (line_of c.self-2.inside.plan) i x ss n) (sym (next_is at))
    (subst (λ (x : GroupValue). AreAhead (line_of x.plan) i t ss n) (sym (as_it_was at)) c.look_ahead.ensures.ahead)

pub run_over-requires-clause-inside : goal.run_over-requires-clause-inside
run_over-requires-clause-inside c =
    let at = (goal.at.run_over-requires-clause-inside c).In-Some in
    let g = c.self-2.inside in
    inside_kept c.value_laws.ensures c.simulation_laws.ensures c.checked_is_sound.ensures g.plan g.lists g.cells.items g.replica g.emitted.items c.self-2.invariant.kept c.args.self.now (as_it_was at) c.args.i
    c.in-Some.cell (cell_is at)

pub run_over-requires-clause-due : goal.run_over-requires-clause-due
run_over-requires-clause-due c =
    let at = (goal.at.run_over-requires-clause-due c).In-Some in
    subst (λ x. x < c.min-end.result) (sym (next_is at)) (ends at).0

pub run_over-requires-clause-says : goal.run_over-requires-clause-says
run_over-requires-clause-says c =
    let at = (goal.at.run_over-requires-clause-says c).In-Some in
    let g = c.self-2.inside in
    may_say_over c.value_laws.ensures c.group_laws.ensures c.table_laws.ensures c.slots_laws.ensures c.known_laws.ensures c.simulation_laws.ensures c.slots_of_states.ensures c.checked_is_sound.ensures
    g.plan g.lists g.cells.items g.replica g.emitted.items c.self-2.invariant.kept c.args.self.now (as_it_was at) c.args.i c.in-Some.cell (cell_is at) c.min-end.result (stop at) (far at)

pub run_over-requires-clause-changed : goal.run_over-requires-clause-changed
run_over-requires-clause-changed c =
    let at = (goal.at.run_over-requires-clause-changed c).In-Some in
    let g = c.self-2.inside in
    few_changed c.value_laws.ensures c.checked_is_sound.ensures g.plan g.lists g.cells.items g.replica g.emitted.items c.self-2.invariant.kept c.args.self.now (as_it_was at) c.args.i c.in-Some.cell (cell_is at)

pub invariant_of-self : goal.invariant_of-self
invariant_of-self c =
    let at = (goal.at.invariant_of-self c).In-Some in
    let g = c.self-2.inside in
    record {
      kept = kept_stays c.value_laws.ensures c.checked_is_sound.ensures g.plan g.lists g.cells.items g.replica g.emitted.items c.self-2.invariant.kept c.args.self.now (as_it_was at) c.args.i
          c.in-Some.cell (cell_is at) c.run_over.new.cell c.in_err-said.ensures.stays c.run_over.new.replica c.run_over.new.emitted.items c.in_err-said.ensures.not_taken c.in_err-said.ensures.not_emitted;
      stretches = c.self-2.invariant.stretches;
      disturbances = c.self-2.invariant.disturbances;
      sources = c.self-2.invariant.sources;
    }

pub returns-in_err-said-clause-err : goal.returns-in_err-said-clause-err
returns-in_err-said-clause-err c =
    let at = (goal.at.returns-in_err-said-clause-err c).In-Some in
    let g = c.self-2.inside in
    on_err c.from_residual.result
    (value_stays c.value_laws.ensures c.checked_is_sound.ensures g.plan g.lists g.cells.items g.replica g.emitted.items c.self-2.invariant.kept c.args.self.now (as_it_was at) c.args.i
    c.in-Some.cell (cell_is at) c.run_over.new.cell c.in_err-said.ensures.stays c.run_over.new.replica c.run_over.new.emitted.items c.in_err-said.ensures.not_taken c.in_err-said.ensures.not_emitted
    ∙ as_it_was at)

pub invariant_of-self-2 : goal.invariant_of-self-2
invariant_of-self-2 c =
    let at = (goal.at.invariant_of-self-2 c).In-Some in
    let g = c.self-2.inside in
    record {
      kept = kept_over c.value_laws.ensures c.group_laws.ensures c.table_laws.ensures c.slots_laws.ensures c.known_laws.ensures c.simulation_laws.ensures c.slots_of_states.ensures c.checked_is_sound.ensures
          g.plan g.lists g.cells.items g.replica g.emitted.items c.self-2.invariant.kept c.args.self.now (as_it_was at) c.args.i c.in-Some.cell (cell_is at) c.min-end.result (stop at) (far at)
          c.run_over.new.cell c.in_ok-said.said.items c.in_ok-said.ensures.gone c.run_over.new.replica c.run_over.new.emitted.items c.in_ok-said.ensures.taken c.in_ok-said.ensures.emitted;
      stretches = c.self-2.invariant.stretches;
      disturbances = c.self-2.invariant.disturbances;
      sources = c.self-2.invariant.sources;
    }

pub returns-clause-gone : goal.returns-clause-gone
returns-clause-gone c =
    let at = (goal.at.returns-clause-gone c).In-Some in
    let g = c.self-2.inside in
    has_gone_over c.value_laws.ensures c.group_laws.ensures c.table_laws.ensures c.slots_laws.ensures c.known_laws.ensures c.simulation_laws.ensures c.slots_of_states.ensures c.checked_is_sound.ensures
    g.plan g.lists g.cells.items g.replica g.emitted.items c.self-2.invariant.kept c.args.self.now (as_it_was at) c.args.i c.in-Some.cell (cell_is at) c.min-end.result (stop at) (far at)
    c.run_over.new.cell c.in_ok-said.said.items c.in_ok-said.ensures.gone c.run_over.new.replica c.run_over.new.emitted.items c.in_ok-said.ensures.taken c.in_ok-said.ensures.emitted

pub returns-clause-next : goal.returns-clause-next
returns-clause-next c one =
    let at = (goal.at.returns-clause-next c).In-Some in
    let now = c.args.self.now in
    let g = c.self-2.inside in
    let bound = end_is at in
    let next = next_is at in
    let early = (next_before now c.args.i c.requires.may).0 in
    has_run_next c.value_laws.ensures c.group_laws.ensures c.table_laws.ensures c.slots_laws.ensures c.known_laws.ensures c.simulation_laws.ensures c.slots_of_states.ensures c.checked_is_sound.ensures
    g.plan g.lists g.cells.items g.replica g.emitted.items c.self-2.invariant.kept now (as_it_was at) c.args.i c.in-Some.cell (cell_is at) c.min-end.result (stop at) (far at)
    c.run_over.new.cell c.in_ok-said.said.items c.in_ok-said.ensures.gone c.run_over.new.replica c.run_over.new.emitted.items c.in_ok-said.ensures.taken c.in_ok-said.ensures.emitted
    c.requires.may (omega (arith, one, bound, next, early))
