-- The quantum that begins now is the next one, and sees what the line is.
use Rattle.std.proofs.Common.{◌≡◌, ◌∙◌, ap, sym, subst, arith, inl, inr, ℕ, ◌+◌, ◌<◌, List, [], ◌∷◌, ◌++◌}
use Rattle.std.proofs.lemmas.Bool.{cases_lt}
use Rattle.wl_level.specs.declared.Level.{Level}
use Rattle.wl_level.specs.Levels.{level_of}
use Rattle.wl_clock.specs.Timing.{tick_of}
use Rattle.wl_node.specs.declared.setup.NodeSetup.{NodeSetup}
use Rattle.wl_plan.specs.declared.plan.Plan.{Plan}
use Rattle.wl_plan.specs.Line.{found}
use Rattle.wl_plan.specs.PlanLine.{line_of, setup_at}
use Rattle.wl_plan.specs.Simulation.{level, seen}
use Rattle.wl_trace.specs.Rerun.{IsRerun}
use Rattle.wl_views.proofs.Going.{next_after, next_now, setup_is}
use Rattle.wl_views.proofs.Seeing.{few_more, inside_more, seen_more}
use Rattle.wl_views.proofs.probe.Probe.see.Goals as goal

pub quantum-requires : goal.quantum-requires
quantum-requires c =
    let plan : Plan = c.args.plan.now in
    let i : ℕ = c.args.i in
    let k : ℕ = c.args.self.now.quanta in
    let now = next_now c.simulation_laws.ensures plan c.laws.ensures.sound i c.requires.node k c.args.t c.requires.early (sym c.requires.awaits.next ∙ c.if-self-t.false) in
    let few = few_more c.simulation_laws.ensures plan c.laws.ensures.sound i c.requires.node k (omega (arith, now.0, now.1)) in
    record { few = omega arith }

pub overflow_add-self : goal.overflow_add-self
overflow_add-self c =
    let plan : Plan = c.args.plan.now in
    let i : ℕ = c.args.i in
    let k : ℕ = c.args.self.now.quanta in
    let now = next_now c.simulation_laws.ensures plan c.laws.ensures.sound i c.requires.node k c.args.t c.requires.early (sym c.requires.awaits.next ∙ c.if-self-t.false) in
    let few = few_more c.simulation_laws.ensures plan c.laws.ensures.sound i c.requires.node k (omega (arith, now.0, now.1)) in
    omega arith

pub returns-clause-seen : goal.returns-clause-seen
returns-clause-seen c =
    let plan : Plan = c.args.plan.now in
    let i : ℕ = c.args.i in
    let k : ℕ = c.args.self.now.quanta in
    let t : ℕ = c.args.t in
    let b = c.requires.node in
    let old = c.requires.awaits in
    let setup = c.index-as_slice-i.is ∙ setup_is plan c.as_slice.result.now i c.index-as_slice-i.result (c.as_slice.ensures ∙ ap (λ (p : Plan). p.nodes) c.deref.ensures.0) b in
    let now = next_now c.simulation_laws.ensures plan c.laws.ensures.sound i b k t c.requires.early (sym old.next ∙ c.if-self-t.false) in
    let begins : tick_of (setup_at plan i).clock k ≡ t = now.0 in
    let early : tick_of (setup_at plan i).clock k < plan.end = omega (arith, now.0, now.1) in
    let line = c.found.ensures.holds plan i t c.requires.hears in
    let is : found (line_of plan) (level (line_of plan)) i (tick_of (setup_at plan i).clock k) ≡ c.found.result.dominant =
    ap (found (line_of plan) (level (line_of plan)) i) begins ∙ line.same t (omega arith) line.later
    in
    let levels : List Level = seen (line_of plan) i k in
    let sees : levels ++ c.level_of-level.result ∷ [] ≡ seen (line_of plan) i (k + 1) =
    ap (λ (l : Level). seen (line_of plan) i k ++ l ∷ []) (c.level_of-level.ensures ∙ ap level_of (sym is))
    ∙ sym (seen_more c.simulation_laws.ensures plan c.laws.ensures.sound i b k)
    in
    let node : IsRerun (setup_at plan i) (seen (line_of plan) i (k + 1)) c.quantum.new.self =
    subst (λ (ls : List Level). IsRerun (setup_at plan i) ls c.quantum.new.self) sees
    (subst (λ (s : NodeSetup). IsRerun s (levels ++ c.level_of-level.result ∷ []) c.quantum.new.self) setup
    (c.quantum.ensures.run levels (c.simulation_laws.ensures.length_seen (line_of plan) i k)
    (subst (λ (s : NodeSetup). IsRerun s levels c.args.self.now.node) (sym setup) old.runs.node)))
    in
    record {
      runs = record {
        node = node;
        snapshot = c.snapshot-self.ensures (setup_at plan i) (seen (line_of plan) i (k + 1)) node;
        inside = inside_more c.simulation_laws.ensures plan c.laws.ensures.sound i b k old.runs.inside early;
      };
      before = λ q less. elim (cases_lt q k) [
        | inl low ↦ (let m = old.before q low in omega arith)
        | inr high ↦ (let e : q ≡ k = omega arith in let m = ap (tick_of (setup_at plan i).clock) e in omega arith)
      ];
      later = next_after c.simulation_laws.ensures plan c.laws.ensures.sound i b k t c.requires.early begins;
    }
