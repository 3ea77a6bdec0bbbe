-- One node more, each by its changes. One that is dominant is enough.
use Rattle.std.proofs.Common.{◌≡◌, ◌∙◌, ◌<◌, ℕ, inl, inr, List, length, length-set, get_or, set, ap, sym, subst, arith, get_or-set_other, get_or-set_same}
use Rattle.std.proofs.lemmas.Bool.{cases_eq, cases_lt}
use Rattle.wl_topology.proofs.Callers.{any_from, any_none}
use Rattle.wl_plan.specs.declared.plan.Plan.{Plan}
use Rattle.wl_pulse.specs.declared.pulse.Pulse.{Pulse}
use Rattle.wl_serial.specs.LineAt.{comes}
use Rattle.wl_views.specs.PlaceLine.{Comes, Lasts, not_held}
use Rattle.wl_views.proofs.signals.driven.Goals as goal

-- what is known of each node, with that of one put in its place
put : (plan : Plan) (j t i : ℕ) (all : List Pulse) (new : Pulse) → i < length all → Comes plan j t all → Lasts (comes plan i j) t new → Comes plan j t (set all i new)
put plan j t i all new inside was here k b = elim (cases_eq k i) [
  | inl same ↦ subst (λ (m : ℕ). t < (get_or (set all i new) m not_held).until → Lasts (comes plan m j) t (get_or (set all i new) m not_held)) (sym same)
      (λ later. subst (Lasts (comes plan i j) t) (sym (get_or-set_same all i new not_held inside)) here)
  | inr other ↦ subst (λ (h : Pulse). t < h.until → Lasts (comes plan k j) t h) (sym (get_or-set_other all i k new not_held other)) (was k b)
]

pub loop-i-init : goal.loop-i-init
loop-i-init c = record {
  later = (let e = c.requires.early in omega arith);
  silent = λ k u below. absurd (omega arith);
  sources = c.requires.was;
  room = c.told-sources;
}

pub returns-then-held-clause-drives : goal.returns-then-held-clause-drives
returns-then-held-clause-drives c =
    let plan : Plan = c.args.plan.now in
    let i : ℕ = c.loop-i.i in
    let j : ℕ = c.args.j in
    let held : Pulse = c.ask_again-held.result in
    let all : length c.deref.result.now.nodes ≡ length plan.nodes = ap (λ (p : Plan). length p.nodes) c.deref.ensures.0 in
    let b : i < length plan.nodes = omega arith in
    let h = subst (Lasts (comes plan i j) c.args.t) (sym c.ask_again-held.ensures.answer) c.ask_again-held.ensures.held in
    record {
      later = h.later;
      same = λ u from below.
          any_from (length plan.nodes) i (λ k. comes plan k j u) b (h.same u from below ∙ c.if-held.true) ∙ sym c.if-held.true;
    }

pub returns-clause-drives : goal.returns-clause-drives
returns-clause-drives c =
    let plan : Plan = c.args.plan.now in
    let all : length c.deref.result.now.nodes ≡ length plan.nodes = ap (λ (p : Plan). length p.nodes) c.deref.ensures.0 in
    record {
      later = c.loop-i.invariant.later;
      same = λ u from below.
          any_none (length plan.nodes) (λ k. comes plan k c.args.j u) (λ k b. c.loop-i.invariant.silent k u (omega arith) from below);
    }

pub loop-i-preserved : goal.loop-i-preserved
loop-i-preserved c =
    let plan : Plan = c.args.plan.now in
    let i : ℕ = c.loop-i.i in
    let t : ℕ = c.args.t in
    let j : ℕ = c.args.j in
    let inv = c.loop-i.invariant in
    let few = c.laws.ensures.checked.few_nodes in
    let all : length c.deref.result.now.nodes ≡ length plan.nodes = ap (λ (p : Plan). length p.nodes) c.deref.ensures.0 in
    let long = inv.room in
    let inside : i < length c.loop-i.sources = omega arith in
    let new : Pulse = c.ask_again-held.new.held in
    let h = subst (Lasts (comes plan i j) t) (sym c.ask_again-held.ensures.answer) c.ask_again-held.ensures.held in
    let until = c.min-until.ensures in
    record {
      later = (let m = inv.later in let n = h.later in omega arith);
      silent = λ k u below from before. elim (cases_lt k i) [
        | inl low ↦ inv.silent k u low from (omega arith)
        | inr high ↦
            (let same : k ≡ i = omega arith in
            ap (λ (m : ℕ). comes plan m j u) same ∙ h.same u from (omega arith) ∙ c.if-held.false)
      ];
      sources = put plan j t i c.loop-i.sources new inside inv.sources c.ask_again-held.ensures.held;
      room = length-set c.loop-i.sources i new ∙ inv.room;
    }
