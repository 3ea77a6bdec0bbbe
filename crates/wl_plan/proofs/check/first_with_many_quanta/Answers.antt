-- None has too many where none below each place has.
use Rattle.std.proofs.Common.{◌≡◌, ◌∙◌, ℕ, ◌+◌, ◌<◌, List, length, get_or, inl, inr, sym, ap, subst, arith, nat_lt, false}
use Rattle.std.proofs.lemmas.Bool.{cases_lt}
use Rattle.std.proofs.lemmas.List.{get_or_default}
use Rattle.wl_clock.specs.Timing.{IsTiming, tick_of}
use Rattle.wl_segments.specs.Lengths.{AreLengths}
use Rattle.wl_node.specs.declared.setup.NodeSetup.{NodeSetup}
use Rattle.wl_plan.specs.Checked.{has_many_quanta}
use Rattle.wl_plan.specs.PlanLine.{no_setup}
use Rattle.wl_plan.proofs.CheckProofs.{position_none}
use Rattle.wl_plan.proofs.check.first_with_many_quanta.Goals as goal

-- what holds of the nodes before one, and of that one, holds of all up to it
each_up_to : (P : NodeSetup → Type 0) (nodes : List NodeSetup) (i : ℕ) (node : NodeSetup) → i < length nodes → node ≡ get_or nodes i node
    → ((k : ℕ) (d : NodeSetup) → k < i → P (get_or nodes k d)) → P node → (k : ℕ) (d : NodeSetup) → k < i + 1 → P (get_or nodes k d)
each_up_to P nodes i node inside is before here k d less = elim (cases_lt k i) [
  | inl old ↦ before k d old
  | inr new ↦ (let e : i ≡ k = omega arith in subst P (is ∙ (get_or_default nodes i node d inside ∙ ap (λ n. get_or nodes n d) e)) here)
]

pub loop-i-preserved : goal.loop-i-preserved
loop-i-preserved c =
    let node = c.index-nodes-i.result in
    let nodes = c.args.nodes.now in
    let inside : c.loop-i.i < length nodes = omega arith in
    let few : has_many_quanta c.args.limits c.args.end node ≡ false =
    ap (λ m. nat_lt (tick_of node.clock m) c.args.end) (sym c.most_quanta.ensures.most) ∙ (sym c.has_many_quanta.ensures.many ∙ c.if-has_many_quanta.false) in
    record {
      few = each_up_to (λ n. has_many_quanta c.args.limits c.args.end n ≡ false) nodes c.loop-i.i node inside c.index-nodes-i.is c.loop-i.invariant.few few;
      clocks = each_up_to (λ n. IsTiming n.clock) nodes c.loop-i.i node inside c.index-nodes-i.is c.loop-i.invariant.clocks c.has_many_quanta.ensures.timing;
      segments = each_up_to (λ n. AreLengths n.segments) nodes c.loop-i.i node inside c.index-nodes-i.is c.loop-i.invariant.segments c.most_quanta.ensures.lengths;
    }

pub returns-clause-first : goal.returns-clause-first
returns-clause-first c = sym (position_none (has_many_quanta c.args.limits c.args.end) c.args.nodes.now no_setup (λ k b. c.loop-i.invariant.few k no_setup (omega arith)))
